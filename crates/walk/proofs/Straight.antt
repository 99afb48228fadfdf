-- Walks joined, carried over to other edges, and made straight: such that they pass no visit twice.
use Rattle.std.proofs.Common.{◌≡◌, ℕ, zero, suc, ◌<◌, ◌≤◌, ◌≢◌, ◌⊎◌, List, [], ◌∷◌, ◌++◌, length, All, Contains, sym, refl, ◌∙◌, subst, inl, inr, ⊎_elim, arith}
use Rattle.std.specs.List.{AllByRecursion}
use Rattle.std.proofs.lemmas.Bool.{cases_eq, eqb-true}
use Rattle.std.proofs.lemmas.Bool.Decides.{Decides-eqb}
use Rattle.std.proofs.lemmas.List.Elements.{All-cons, All-nil, All-contains, All-from_recursion}
use Rattle.std.proofs.lemmas.List.Kept.{AllPairs-cons}
use Rattle.std.proofs.lemmas.Map.Made.{IsDistinct-from_AllPairs}
use Rattle.std.proofs.lemmas.Map.Steps.{length-le_from_distinct_below}
use Rattle.std.proofs.lemmas.Map.Views.{Contains-from_any}
use Rattle.walk.specs.declared.crossing.Crossing.{Crossing}
use Rattle.walk.specs.Edges.{Edge, from, to}
use Rattle.walk.specs.Walks.{Walk, Distinct}
use Rattle.walk.proofs.Lists.{pairs_one, pairs_tail}

module _ {E : Type 0} (from to : E → ℕ) where
  -- a walk that goes on with another
  pub join :
      (Is : E → Type 0) (u x v : ℕ) (a b : List E) →
      Walk from to Is u x a → Walk from to Is x v b → Walk from to Is u v (b ++ a)
  join Is u x v a [] h e = let P : ℕ → Type 0 = λ y. Walk from to Is u y a in subst P e h
  join Is u x v a (e ∷ b) h (i, t, k) = (i, t, join Is u x (from e) a b h k)

  -- the same walk over other edges
  pub carry :
      (Is Is' : E → Type 0) → ((e : E) → Is e → Is' e) → (u v : ℕ) (w : List E) → Walk from to Is u v w → Walk from to Is' u v w
  carry Is Is' f u v [] h = h
  carry Is Is' f u v (e ∷ w) (i, t, h) = (f e i, t, carry Is Is' f u (from e) w h)

  -- what holds of the edges that a walk goes over holds of each edge in it
  pub in_walk : (Is : E → Type 0) (u v : ℕ) (w : List E) → Walk from to Is u v w → (e : E) → Contains w e → Is e
  in_walk Is u v [] h e (k, l, at) = absurd (omega arith)
  in_walk Is u v (d ∷ w) (i, t, h) e (zero, l, at) = subst Is at i
  in_walk Is u v (d ∷ w) (i, t, h) e (suc k, l, at) = in_walk Is u (from d) w h e (k, omega arith, at)

-- the visits that a walk to v passes, the last one first
abbrev pub trail : List Crossing → ℕ → List Edge → List ℕ
trail cs v [] = v ∷ []
trail cs v (e ∷ w) = v ∷ trail cs (from cs e) w

module _ (cs : List Crossing) (Is : Edge → Type 0) (u : ℕ) where
  -- a walk to v that passes no visit twice
  abbrev Straight : ℕ → Type 0
  Straight v = (s : List Edge) × Walk (from cs) (to cs) Is u v s × Distinct (trail cs v s)

  -- the part of a straight walk up to the visit x, if it passes x
  up_to :
      (x v : ℕ) (w : List Edge) → Walk (from cs) (to cs) Is u v w → Distinct (trail cs v w)
      → Straight x ⊎ All (λ y. x ≢ y) (trail cs v w)
  up_to x v [] h a =
      ⊎_elim (λ e. inl ([], h ∙ sym e, pairs_one ◌≢◌ x)) (λ n. inr (All-cons (◌≢◌ x) v [] n (All-nil (◌≢◌ x)))) (cases_eq x v)
  up_to x v (e ∷ w) (i, t, h) a =
      let rest = trail cs (from cs e) w in
      ⊎_elim (λ q. inl (subst Straight (sym q) (e ∷ w, (i, t, h), a)))
      (λ n. ⊎_elim inl (λ m. inr (All-cons (◌≢◌ x) v rest n m)) (up_to x (from cs e) w h (pairs_tail ◌≢◌ v rest a)))
      (cases_eq x v)

  straight : (v : ℕ) (w : List Edge) → Walk (from cs) (to cs) Is u v w → Straight v
  straight v [] h = ([], h, pairs_one ◌≢◌ v)
  straight v (e ∷ w) (i, t, h) =
      let (s, k, a) = straight (from cs e) w h in
      ⊎_elim (λ r. r) (λ n. (e ∷ s, (i, t, k), AllPairs-cons ◌≢◌ v (trail cs (from cs e) s) n a)) (up_to v (from cs e) s k a)

-- where a walk leads, one leads that passes no visit twice
pub straighten :
    (cs : List Crossing) (Is : Edge → Type 0) (u v : ℕ) (w : List Edge) → Walk (from cs) (to cs) Is u v w →
    (s : List Edge) × Walk (from cs) (to cs) Is u v s × Distinct (trail cs v s)
straighten cs Is u v w h = straight cs Is u v w h

-- of the numbers below n there are no more than n
fit : (n : ℕ) (xs : List ℕ) → AllByRecursion (λ x. x < n) xs → Distinct xs → length xs ≤ n
fit n xs h a =
    length-le_from_distinct_below xs n (IsDistinct-from_AllPairs Decides-eqb xs a)
    (λ q m. All-contains (λ x. x < n) xs q (All-from_recursion (λ x. x < n) xs h) (Contains-from_any eqb-true q xs m))

length_trail : (cs : List Crossing) (v : ℕ) (w : List Edge) → length (trail cs v w) ≡ suc (length w)
length_trail cs v [] = refl
length_trail cs v (e ∷ w) = omega (arith, length_trail cs (from cs e) w)

-- a walk that passes no visit twice has fewer edges than there are visits
pub short : (cs : List Crossing) (n v : ℕ) (w : List Edge) → AllByRecursion (λ x. x < n) (trail cs v w) → Distinct (trail cs v w) → length w < n
short cs n v w h a = omega (arith, fit n (trail cs v w) h a, length_trail cs v w)
