-- Whatever directions are chosen, the graph has no circle.
use Rattle.std.proofs.Common.{◌≡◌, ℕ, zero, suc, ◌+◌, ◌<◌, ◌≤◌, Bool, true, false, not, ◌&&◌, eqb, ltb, ◌⊎◌, List, [], ◌∷◌, ◌++◌, length, Contains, sym, refl, ◌∙◌, subst, inl, inr, arith}
use Rattle.std.proofs.lemmas.Bool.{both_ways, cases_lt, and_parts, and_from, ltb-true, lt-ltb, ne_eqb, not-true, not_from_false}
use Rattle.walk.specs.declared.visit.Visit.{Visit}
use Rattle.walk.specs.declared.crossing.Crossing.{Crossing}
use Rattle.walk.specs.Edges.{Edge, from, to, is_edge, has_next, visit, crossing}
use Rattle.walk.specs.Edges.Edge.{path_edge, plan_edge, reversed_edge}
use Rattle.walk.specs.Walks.{Walk, Distinct}
use Rattle.walk.specs.Ways.{TestWalk, Tested, test_ways, Choice, chosen_ways, NoCircle}
use Rattle.walk.proofs.Timely.{Timely}
use Rattle.walk.proofs.Straight.{join, carry, in_walk, trail, straighten}

-- The test as far as the theorem needs it: of no two-way crossing is there a test walk that passes no visit twice and never uses
-- both edges of one crossing.
abbrev pub ChainFree : List Visit → List Crossing → Type 0
ChainFree vs cs =
    (k : ℕ) → k < length cs → (crossing cs k).two_way ≡ true → (w : List Edge) → TestWalk vs cs k w →
    Distinct (trail cs ((crossing cs k).second + 1) w) → ((j : ℕ) → Contains w (plan_edge j) → Contains w (reversed_edge j) → ⊥) → ⊥

-- the chosen edges, with only the crossings below b turned
abbrev Below : List Visit → List Crossing → (ℕ → Bool) → ℕ → Edge → Type 0
Below vs cs turned b (path_edge v) = has_next vs v ≡ true
Below vs cs turned b (plan_edge k) = (k < length cs) × (turned k ≡ false)
Below vs cs turned b (reversed_edge k) =
    (k < length cs) × (turned k ≡ true) × (has_next vs (crossing cs k).second ≡ true) × (k < b)

-- with all crossings turned that are chosen to be, these are all the edges
chosen :
    (vs : List Visit) (cs : List Crossing) (turned : ℕ → Bool) (e : Edge) →
    is_edge vs cs (chosen_ways turned) e ≡ true → Below vs cs turned (length cs) e
chosen vs cs turned (path_edge v) h = h
chosen vs cs turned (plan_edge k) h =
    let (l, t) = and_parts (ltb k (length cs)) (not (turned k)) h in
    (ltb-true k (length cs) l, not-true (turned k) t)
chosen vs cs turned (reversed_edge k) h =
    let n = has_next vs (crossing cs k).second in
    let (l, r) = and_parts (ltb k (length cs)) (turned k && n) h in
    let (t, m) = and_parts (turned k) n r in
    let i = ltb-true k (length cs) l in
    (i, t, m, i)

module _ (vs : List Visit) (cs : List Crossing) (timely : Timely vs cs) (turned : ℕ → Bool) where
  -- with nothing turned, each edge leads to a later step, so there is no circle
  rises : (e : Edge) → Below vs cs turned 0 e → (visit vs (from cs e)).step < (visit vs (to cs e)).step
  rises (path_edge v) h = timely.later v h
  rises (plan_edge k) (l, t) = timely.clear k l
  rises (reversed_edge k) (l, t, n, b) = omega arith

  rises_walk :
      (u v : ℕ) (w : List Edge) → Walk (from cs) (to cs) (Below vs cs turned 0) u v w → (visit vs u).step ≤ (visit vs v).step
  rises_walk u v [] e = rw e (omega arith)
  rises_walk u v (e ∷ w) (i, t, h) = rw (← t) (omega (arith, rises e i, rises_walk u (from cs e) w h))

  -- some walk over the chosen edges with the crossings below b turned
  abbrev Leads : ℕ → ℕ → ℕ → Type 0
  Leads b u v = (w : List Edge) × Walk (from cs) (to cs) (Below vs cs turned b) u v w

  abbrev Turns : ℕ → Type 0
  Turns k = (k < length cs) × (turned k ≡ true)

  -- an edge is the reversed edge of crossing k
  abbrev Reverses : ℕ → Edge → Type 0
  Reverses k e = Turns k × (from cs e ≡ (crossing cs k).second + 1) × (to cs e ≡ (crossing cs k).first)

  -- an edge that may turn crossing k is one that does not, or does
  lower : (k : ℕ) (e : Edge) → Below vs cs turned (suc k) e → Below vs cs turned k e ⊎ Reverses k e
  lower k (path_edge v) h = inl h
  lower k (plan_edge j) h = inl h
  lower k (reversed_edge j) (l, t, n, b) = at (cases_lt j k)
    where
      at : (j < k) ⊎ (k ≤ j) → Below vs cs turned k (reversed_edge j) ⊎ Reverses k (reversed_edge j)
      at (inl s) = inl (l, t, n, s)
      at (inr s) = let e : k ≡ j = omega arith in inr (rw e ((l, t), refl, refl))

  -- a walk that may turn crossing k either does not, or has a part before the first time that it does, and one after the last
  abbrev Parts : ℕ → ℕ → ℕ → Type 0
  Parts k u v = Leads k u v ⊎ (Turns k × Leads k u ((crossing cs k).second + 1) × Leads k (crossing cs k).first v)

  parts : (k u v : ℕ) (w : List Edge) → Walk (from cs) (to cs) (Below vs cs turned (suc k)) u v w → Parts k u v
  parts k u v [] h = inl ([], h)
  parts k u v (e ∷ w) (i, t, h) = at (lower k e i) (parts k u (from cs e) w h)
    where
      at : Below vs cs turned k e ⊎ Reverses k e → Parts k u (from cs e) → Parts k u v
      at (inl f) (inl (a, p)) = inl (e ∷ a, (f, t, p))
      at (inl f) (inr (r, before, (a, p))) = inr (r, before, (e ∷ a, (f, t, p)))
      at (inr (r, s, d)) (inl a) = let P : ℕ → Type 0 = Leads k u in inr (r, subst P s a, ([], sym d ∙ t))
      at (inr (r, s, d)) (inr (q, before, after)) = inr (r, before, ([], sym d ∙ t))

  module _ (test : ChainFree vs cs) (choice : Choice cs turned) where
    -- the edges that turn only crossings below k are among those of the test of k
    known : (k : ℕ) → Turns k → (e : Edge) → Below vs cs turned k e → is_edge vs cs (test_ways cs k) e ≡ true
    known k t (path_edge v) h = h
    known k t (plan_edge j) (l, f) =
        and_from _ _ (lt-ltb j (length cs) l)
        (not_from_false (eqb j k) (ne_eqb j k (λ e. both_ways (turned j) f (rw e t.1))))
    known k t (reversed_edge j) (l, f, n, b) =
        and_from _ _ (lt-ltb j (length cs) l) (and_from _ _ (and_from _ _ (lt-ltb j k b) (choice j f)) n)

    -- what the test refuses
    refused : (k : ℕ) → Turns k → Leads k (crossing cs k).first ((crossing cs k).second + 1) → ⊥
    refused k t (a, h) =
        let Is : Edge → Type 0 = Below vs cs turned k in
        let u = (crossing cs k).first in
        let v = (crossing cs k).second + 1 in
        let (w, s, apart) = straighten cs Is u v a h in
        test k t.0 (choice k t.1) w (carry (from cs) (to cs) Is _ (known k t) u v w s) apart
        (λ j x y.
        both_ways (turned j)
        (in_walk (from cs) (to cs) Is u v w s (plan_edge j) x).1
        (in_walk (from cs) (to cs) Is u v w s (reversed_edge j) y).1)

    -- A circle that turns crossing k has a part that the test of k refuses. One that does not is over the crossings below.
    circle : (b v : ℕ) (e : Edge) (w : List Edge) → Walk (from cs) (to cs) (Below vs cs turned b) v v (e ∷ w) → ⊥
    circle zero v e w (i, t, h) = let z = rises_walk v (from cs e) w h in omega (arith, rises e i, rw (← t) at z)
    circle (suc k) v e w (i, t, h) = at (circle k) (lower k e i) (parts k v (from cs e) w h)
      where
        at :
            ((v : ℕ) (e : Edge) (w : List Edge) → Walk (from cs) (to cs) (Below vs cs turned k) v v (e ∷ w) → ⊥) →
            Below vs cs turned k e ⊎ Reverses k e → Parts k v (from cs e) → ⊥
        at none (inl f) (inl (a, p)) = none v e a (f, t, p)
        at none (inl f) (inr (r, (a, p), (b, q))) =
            refused k r (a ++ e ∷ b, join (from cs) (to cs) _ _ v _ (e ∷ b) a (f, t, q) p)
        at none (inr (r, s, d)) (inl (a, p)) = refused k r (a, rw (← s, ← d, t) p)
        at none (inr (r, s, d)) (inr (q, (a, p), after)) = refused k r (a, rw (← d, t) p)

pub no_circle : (vs : List Visit) (cs : List Crossing) → Timely vs cs → ChainFree vs cs → NoCircle vs cs
no_circle vs cs timely test turned choice v e w h =
    circle vs cs timely turned test choice (length cs) v e w
    (carry (from cs) (to cs) _ (Below vs cs turned (length cs)) (chosen vs cs turned) v v (e ∷ w) h)

pub tested_no_circle :
    (vs : List Visit) (cs : List Crossing) → Timely vs cs → ((k : ℕ) → k < length cs → Tested vs cs k) → NoCircle vs cs
tested_no_circle vs cs timely tested = no_circle vs cs timely (λ k l t w h apart one_way. ((tested k l).0 t).1 w h)
