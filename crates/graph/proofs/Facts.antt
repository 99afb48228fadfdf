-- What a graph's invariant gives.
use Rattle.std.proofs.Common.{◌≡◌, ℕ, List, [], ◌∷◌, ◌++◌, map, length, Some, None, filter, Option, sym, refl, ap, ◌∙◌, subst, arith}
use mathlib.Core.Bool.{Bool-set}
use mathlib.Core.HLevel.{Π_prop, ×_prop, ⊥_prop}
use mathlib.Core.Logic.{∥∥₁_elim}
use Rattle.std.specs.List.{range_with_len, flat_map}
use Rattle.std.proofs.lemmas.List.{map-append}
use Rattle.fault.specs.declared.kinds.Conflict.TheVariants.{Clash, Following}
use Rattle.record.specs.Layout.{Draft}
use Rattle.plan.specs.declared.accepted.Plan.{Plan}
use Rattle.plan.specs.Conflicts.{ConflictFree}
use Rattle.walk.specs.declared.visit.Visit.{Visit}
use Rattle.walk.specs.declared.crossing.Crossing.{Crossing}
use Rattle.walk.specs.Ways.{NoCircle}
use Rattle.walk.proofs.Timely.{Timely}
use Rattle.walk.proofs.Circle.{tested_no_circle}
use Rattle.visit.specs.Visits.{plan_visits}
use Rattle.visit.specs.Crossings.{crosses, crossing_of, crossings_from, plan_crossings}
use Rattle.visit.proofs.Times.{plan_timely}
use Rattle.graph.specs.Between.{Between}
use Rattle.graph.specs.declared.graph.Graph.{Graph}
use Rattle.graph.specs.Graphs.{one_way, AllTested, GraphOf, held}
use Rattle.graph.specs.Verdicts.{graph_draft, graph_visits, graph_crossings}
use Rattle.graph.proofs.Along.{next_there}
use Rattle.graph.proofs.Alike.{timely_alike}

-- there is one proof at most, so that the invariant can state it
pub judged : (vs : List Visit) (cs : List Crossing) (n : ℕ) → ∥ AllTested vs cs n ∥₁ → AllTested vs cs n
judged vs cs n h =
    ∥∥₁_elim h (Π_prop (λ k. Π_prop (λ l. ×_prop (Π_prop (λ e. ×_prop (×_prop (Bool-set _ _) (Bool-set _ _)) (Π_prop (λ w. Π_prop (λ t. ⊥_prop))))) (Π_prop (λ p. Bool-set _ _))))) (λ j. j)

-- ---- crossings as they are found are one-way

made_one_way : (vs : List Visit) (u : ℕ) (ws : List ℕ) → map one_way (map (crossing_of vs u) ws) ≡ map (crossing_of vs u) ws
made_one_way vs u [] = refl
made_one_way vs u (w ∷ ws) = ap (λ xs. crossing_of vs u w ∷ xs) (made_one_way vs u ws)

all_one_way : (vs : List Visit) (us : List ℕ) → map one_way (flat_map (crossings_from vs) us) ≡ flat_map (crossings_from vs) us
all_one_way vs [] = refl
all_one_way vs (u ∷ us) =
    map-append one_way (crossings_from vs u) (flat_map (crossings_from vs) us)
    ∙ (λ i. made_one_way vs u (filter (crosses vs u) (range_with_len 0 (length vs))) i ++ all_one_way vs us i)

pub plan_one_way : (vs : List Visit) → map one_way (plan_crossings vs) ≡ plan_crossings vs
plan_one_way vs = all_one_way vs (range_with_len 0 (length vs))

-- ---- the times of a graph's visits

pub timely_between : (vs : List Visit) (cs : List Crossing) → Timely vs cs → Between (length vs) cs
timely_between vs cs t k h = (next_there vs _ (t.first_leaves k h), t.second_there k h)

pub held_clear : (p : Option Plan) → ConflictFree (held p)
held_clear None Clash m (l, h, e) = omega arith
held_clear None Following m (s, l, h, n, e, d) = omega arith
held_clear (Some p) kind m h = p.clear kind m h

pub graph_timely : (d : Draft) (vs : List Visit) (cs : List Crossing) → ConflictFree d → vs ≡ plan_visits d → map one_way cs ≡ plan_crossings vs → Timely vs cs
graph_timely d vs cs clear visited crossed =
    let P : List Visit → Type 0 = λ xs. Timely xs (plan_crossings xs) in
    timely_alike (plan_crossings vs) cs (plan_one_way vs ∙ sym crossed) vs (subst P (sym visited) (plan_timely d clear))

module _ (g : Graph) where
  pub graph_judges : AllTested (graph_visits g) (graph_crossings g) (length (graph_crossings g))
  graph_judges = judged (graph_visits g) (graph_crossings g) (length (graph_crossings g)) g.tested

  pub graph_built : GraphOf (graph_draft g) (graph_visits g) (graph_crossings g)
  graph_built = record { visits_are = g.visited; crossings_are = g.crossed; two_way_are = graph_judges }

  pub timely : Timely (graph_visits g) (graph_crossings g)
  timely = graph_timely (graph_draft g) (graph_visits g) (graph_crossings g) (held_clear g.plan) g.visited g.crossed

  -- whatever directions are chosen, a graph has no circle
  pub graph_acyclic : NoCircle (graph_visits g) (graph_crossings g)
  graph_acyclic = tested_no_circle (graph_visits g) (graph_crossings g) timely graph_judges
