-- Marks decide whether a walk leads from one visit to another.
use Rattle.std.proofs.Common.{◌≡◌, ℕ, ◌<◌, true, false, List, [], ◌∷◌, length, get_or, set, replicate, get_or-set_same, get_or-set_other, Decides, sym, ap, ◌∙◌, ⊎_elim, arith}
use Rattle.std.proofs.lemmas.Bool.{cases_eq, cases_lt, eq-eqb, ne_eqb}
use Rattle.std.proofs.lemmas.List.{get_or-replicate, get_or_past, length-replicate}
use Rattle.std.specs.List.{AllByRecursion}
use Rattle.walk.specs.declared.visit.Visit.{Visit}
use Rattle.walk.specs.declared.crossing.Crossing.{Crossing}
use Rattle.walk.specs.declared.crossing.Ways.{Ways}
use Rattle.walk.specs.Edges.{Edge, from, is_edge}
use Rattle.walk.specs.Walks.{GraphWalk}
use Rattle.walk.specs.Kinds.{mark, marks}
use Rattle.walk.specs.Sums.{sum_at}
use Rattle.walk.proofs.Straight.{trail, straighten, short}
use Rattle.walk.proofs.Marked.{marked_at, mark_walk, walk_mark}
use Rattle.graph.specs.Between.{Between}
use Rattle.graph.specs.Inputs.{starts_in}
use Rattle.graph.proofs.Along.{edge_within}

-- one mark among n
pub one_marked : (n u : ℕ) → u < n → starts_in (mark false) (set (replicate n (mark false)) u (mark true)) ≡ marked_at u
one_marked n u h = λ i x. at x i
  where
    none : (x : ℕ) → get_or (replicate n (mark false)) x (mark false) ≡ mark false
    none x = ⊎_elim (get_or-replicate n x (mark false) (mark false)) (λ l. get_or_past (replicate n (mark false)) x (mark false) (omega (arith, length-replicate n (mark false)))) (cases_lt x n)

    at : (x : ℕ) → get_or (set (replicate n (mark false)) u (mark true)) x (mark false) ≡ marked_at u x
    at x =
        ⊎_elim
        (λ e. ap (λ y. get_or (set (replicate n (mark false)) u (mark true)) y (mark false)) e
        ∙ get_or-set_same (replicate n (mark false)) u (mark true) (mark false) (omega (arith, length-replicate n (mark false)))
        ∙ ap mark (sym (eq-eqb x u e)))
        (λ e. get_or-set_other (replicate n (mark false)) u x (mark true) (mark false) e ∙ none x ∙ ap mark (sym (ne_eqb x u e)))
        (cases_eq x u)

module _ (vs : List Visit) (cs : List Crossing) (ways : ℕ → Ways) (between : Between (length vs) cs) (u : ℕ) (there : u < length vs) where
  trail_there : (v : ℕ) (w : List Edge) → GraphWalk vs cs ways u v w → AllByRecursion (λ x. x < length vs) (trail cs v w)
  trail_there v [] e = (omega arith, tt)
  trail_there v (e ∷ w) (i, t, h) =
      let l = (edge_within vs cs ways between e i).1 in
      (rw (← t) l, trail_there (from cs e) w h)

  -- the sum of marks over the walks of at most as many edges as there are visits tells of all walks
  pub marks_decide : (v : ℕ) → Decides (sum_at marks vs cs ways (marked_at u) v).set ((w : List Edge) × GraphWalk vs cs ways u v w)
  marks_decide v = (mark_walk vs cs ways u (length vs) v, found)
    where
      found : (w : List Edge) × GraphWalk vs cs ways u v w → (sum_at marks vs cs ways (marked_at u) v).set ≡ true
      found (w, h) =
          let (s, walk, apart) = straighten cs (λ e. is_edge vs cs ways e ≡ true) u v w h in
          let few = short cs (length vs) v s (trail_there v s walk) apart in
          walk_mark vs cs ways u (length vs) v s (omega arith) walk
