-- A plan has one graph, and a record one verdict.
use Rattle.std.proofs.Common.{◌≡◌, ℕ, zero, suc, ◌<◌, ◌≤◌, List, map, length, Ok, Err, Result, sym, refl, ap, ◌∙◌, subst, arith, below_more}
use Rattle.std.proofs.lemmas.Bool.Decides.{same_from_decides}
use Rattle.std.proofs.lemmas.List.{ext_get_or}
use Rattle.fault.specs.declared.kinds.Flaw.TheVariants.{Carrier, Cell, Neighbour}
use Rattle.fault.specs.declared.kinds.Conflict.TheVariants.{Clash, Following}
use Rattle.fault.specs.declared.kinds.RecordFault.TheVariants.{Short, Header, Length}
use Rattle.fault.specs.declared.kinds.EntryFault.TheVariants.{Record, Flawed}
use Rattle.fault.specs.declared.kinds.PlanFault.{PlanFault}
use Rattle.fault.specs.declared.kinds.PlanFault.TheVariants.{Entry, Conflict as Conflicting}
use Rattle.fault.specs.declared.kinds.GraphFault.{GraphFault}
use Rattle.fault.specs.declared.kinds.GraphFault.TheVariants.{Plan, Crossings}
use Rattle.fault.specs.Reports.{number_of}
use Rattle.fault.specs.Firsts.{First, By}
use Rattle.record.specs.Layout.{Draft}
use Rattle.plan.specs.Conflicts.{Applies}
use Rattle.plan.proofs.Only.{only}
use Rattle.walk.specs.declared.visit.Visit.{Visit}
use Rattle.walk.specs.declared.crossing.Crossing.{Crossing}
use Rattle.walk.specs.Edges.{crossing, no_crossing}
use Rattle.visit.specs.Crossings.{plan_crossings}
use Rattle.graph.specs.declared.graph.Graph.{Graph}
use Rattle.graph.specs.Graphs.{one_way, AllTested, GraphOf}
use Rattle.graph.specs.Verdicts.{graph_draft, graph_visits, graph_crossings, graph_number, GraphApplies, GraphJudged, GraphIs}
use Rattle.graph.proofs.Alike.{shapes, lengths, passes_alike}
use Rattle.graph.proofs.Facts.{graph_built, timely}

-- ---- a plan has one graph

-- crossing k is two-way in both or in neither
abbrev SameWay : List Crossing → List Crossing → ℕ → Type 0
SameWay cs ds k = (crossing cs k).two_way ≡ (crossing ds k).two_way

module _ (vs : List Visit) (cs ds : List Crossing) (alike : map one_way cs ≡ map one_way ds)
    (judged : AllTested vs cs (length cs)) (others : AllTested vs ds (length ds)) where
  -- so they agree one after another
  same_ways : (n : ℕ) → n ≤ length cs → (k : ℕ) → k < n → SameWay cs ds k
  same_ways zero l k h = absurd (omega arith)
  same_ways (suc n) l k h =
      let before = same_ways n (omega arith) in
      let here = judged n (omega arith) in
      let there = others n (omega (arith, lengths cs ds alike)) in
      let up = passes_alike vs cs ds alike n before in
      let down = passes_alike vs ds cs (sym alike) n (λ j m. sym (before j m)) in
      let same = same_from_decides _ _ here (λ e. down (there.0 e), λ p. there.1 (up p)) in
      below_more (SameWay cs ds) n before same k (omega arith)

  -- a crossing is its shape and whether it is two-way
  same_crossing : (k : ℕ) → k < length cs → crossing cs k ≡ crossing ds k
  same_crossing k l =
      let shape = shapes cs ds alike k in
      λ i. record {
        cell = (shape i).cell;
        first = (shape i).first;
        second = (shape i).second;
        two_way = same_ways (length cs) (omega arith) k l i;
      }

  same_crossings : cs ≡ ds
  same_crossings = ext_get_or no_crossing cs ds (lengths cs ds alike) same_crossing

pub one_graph : (d : Draft) (vs ws : List Visit) (cs ds : List Crossing) →
    GraphOf d vs cs → GraphOf d ws ds → (ws ≡ vs) × (ds ≡ cs)
one_graph d vs ws cs ds g h =
    let same : ws ≡ vs = h.visits_are ∙ sym g.visits_are in
    let alike : map one_way ds ≡ map one_way cs = h.crossings_are ∙ ap plan_crossings same ∙ sym g.crossings_are in
    let P : List Visit → Type 0 = λ xs. AllTested xs ds (length ds) in
    (same, same_crossings vs ds cs alike (subst P same h.two_way_are) g.two_way_are)

-- ---- a record has one verdict

-- the numbers of a plan's faults come before that of its crossings
plan_low : (f : PlanFault) → number_of f < 9
plan_low (Entry (Record Short)) = omega arith
plan_low (Entry (Record (Header f))) = omega arith
plan_low (Entry (Record Length)) = omega arith
plan_low (Entry (Flawed Carrier k)) = omega arith
plan_low (Entry (Flawed Cell k)) = omega arith
plan_low (Entry (Flawed Neighbour k)) = omega arith
plan_low (Conflicting Clash m) = omega arith
plan_low (Conflicting Following m) = omega arith

module _ (b : List ℕ) where
  -- a plan's fault that is the graph's first is the plan's first
  plan_first : (f : PlanFault) → First (By graph_number) (GraphApplies b) (Plan f) → First (By number_of) (Applies b) f
  plan_first f (a, before) = (a, λ g l. before (Plan g) l)

  same_plan_fault : (f g : PlanFault) → GraphJudged b (Err (Plan f)) → GraphJudged b (Err (Plan g)) → g ≡ f
  same_plan_fault f g x y = let e = only b (Err f) (Err g) (plan_first f x) (plan_first g y) in cc

  pub one_verdict : (v w : Result Draft GraphFault) → GraphJudged b v → GraphJudged b w → w ≡ v
  one_verdict (Ok d) (Ok e) x y = ap Ok (y.0 ∙ sym x.0)
  one_verdict (Ok d) (Err g) x y = absurd (x.1 g y.0)
  one_verdict (Err f) (Ok e) x y = absurd (y.1 f x.0)
  one_verdict (Err (Plan f)) (Err (Plan g)) x y = ap (λ h. Err (Plan h)) (same_plan_fault f g x y)
  one_verdict (Err (Plan f)) (Err Crossings) x y = absurd (y.1 (Plan f) (plan_low f) x.0)
  one_verdict (Err Crossings) (Err (Plan g)) x y = absurd (x.1 (Plan g) (plan_low g) y.0)
  one_verdict (Err Crossings) (Err Crossings) x y = refl

pub graph_is : (g : Graph) → GraphIs g
graph_is g =
    record {
      built = graph_built g;
      single = λ vs cs other. one_graph (graph_draft g) (graph_visits g) vs (graph_crossings g) cs (graph_built g) other;
      leaves = (timely g).first_leaves;
    }
