-- The sum of marks, where visit u alone starts with one, says whether a walk leads from u to v.
use Rattle.std.proofs.Common.{◌≡◌, ℕ, zero, suc, ◌≤◌, true, eqb, List, [], ◌∷◌, map, length, Contains, sym, refl, ap, ◌∙◌, subst, ⊎_elim, arith}
use Rattle.std.proofs.lemmas.Bool.{eqb-true, eq-eqb, or_cases, or_left, or_right, false≢true}
use Rattle.walk.specs.declared.visit.Visit.{Visit}
use Rattle.walk.specs.declared.crossing.Crossing.{Crossing}
use Rattle.walk.specs.declared.crossing.Ways.{Ways}
use Rattle.walk.specs.declared.kinds.Mark.{Mark}
use Rattle.walk.specs.Edges.{Edge, from, to, edges}
use Rattle.walk.specs.Walks.{GraphWalk, graph_walks}
use Rattle.walk.specs.Kinds.{mark, marks}
use Rattle.walk.specs.Sums.{total, brought, sum_over}
use Rattle.walk.proofs.Lists.{has_map, of_map}
use Rattle.walk.proofs.Listed.{lists_walks}

-- a total of marks is set exactly when one of them is
one_set : (ms : List Mark) → (total marks ms).set ≡ true → (m : Mark) × Contains ms m × (m.set ≡ true)
one_set [] h = absurd (false≢true h)
one_set (m ∷ ms) h =
    ⊎_elim (λ here. (m, (0, omega arith, refl), here))
    (λ later. let (x, (k, l, at), is) = one_set ms later in (x, (suc k, omega arith, at), is))
    (or_cases m.set (total marks ms).set h)

set_one : (m : Mark) (ms : List Mark) → Contains ms m → m.set ≡ true → (total marks ms).set ≡ true
set_one m [] (k, l, at) is = absurd (omega arith)
set_one m (x ∷ ms) (zero, l, at) is = or_left x.set (total marks ms).set (ap (λ y. y.set) at ∙ is)
set_one m (x ∷ ms) (suc k, l, at) is = or_right x.set (total marks ms).set (set_one m ms (k, omega arith, at) is)

-- visit u starts with a mark, and no other does
abbrev pub marked_at : ℕ → ℕ → Mark
marked_at u x = mark (eqb x u)

module _ (vs : List Visit) (cs : List Crossing) (ways : ℕ → Ways) (u : ℕ) where
  abbrev mark_of : ℕ → List Edge → Mark
  mark_of = brought marks vs (from cs) (marked_at u)

  -- a step keeps a mark, so a walk brings what its first visit starts with
  brings : (x v : ℕ) (w : List Edge) → GraphWalk vs cs ways x v w → mark_of v w ≡ marked_at u x
  brings x v [] walk = ap (marked_at u) (sym walk)
  brings x v (e ∷ w) walk = brings x (from cs e) w walk.2

  pub mark_walk :
      (k v : ℕ) → (sum_over marks vs (from cs) (to cs) (edges vs cs ways) (marked_at u) k v).set ≡ true
      → (w : List Edge) × GraphWalk vs cs ways u v w
  unfolding sum_over
  mark_walk k v h =
      let (m, among, set) = one_set (map (mark_of v) (graph_walks vs cs ways k v)) h in
      let (w, listed, same) = of_map (mark_of v) (graph_walks vs cs ways k v) m among in
      let (x, walk) = ((lists_walks vs cs ways k v).only w listed).1 in
      let starts = ap (λ m. m.set) (sym (brings x v w walk) ∙ same) ∙ set in
      (w, subst (λ x. GraphWalk vs cs ways x v w) (eqb-true x u starts) walk)

  pub walk_mark :
      (k v : ℕ) (w : List Edge) → length w ≤ k → GraphWalk vs cs ways u v w
      → (sum_over marks vs (from cs) (to cs) (edges vs cs ways) (marked_at u) k v).set ≡ true
  unfolding sum_over
  walk_mark k v w short walk =
      let listed = (lists_walks vs cs ways k v).all u w short walk in
      let among = has_map (mark_of v) (graph_walks vs cs ways k v) w listed in
      set_one (mark_of v w) (map (mark_of v) (graph_walks vs cs ways k v)) among
      (ap (λ m. m.set) (brings u v w walk) ∙ eq-eqb u u refl)
