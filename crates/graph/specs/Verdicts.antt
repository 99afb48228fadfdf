-- What loading a record answers.
use Rattle.std.specs.Prelude.{◌≡◌, ℕ, ◌<◌, true, List, length, Ok, Err, Result}
use Rattle.fault.specs.declared.kinds.GraphFault.{GraphFault}
use Rattle.fault.specs.declared.kinds.GraphFault.TheVariants.{Plan, Crossings}
use Rattle.fault.specs.Reports.{graph_report}
use Rattle.fault.specs.Firsts.{Verdict}
use Rattle.record.specs.Layout.{Draft, draft}
use Rattle.plan.specs.Conflicts.{Applies}
use Rattle.walk.specs.declared.visit.Visit.{Visit}
use Rattle.walk.specs.declared.crossing.Crossing.{Crossing}
use Rattle.walk.specs.Edges.{crossing, has_next}
use Rattle.visit.specs.Visits.{plan_visits}
use Rattle.visit.specs.Crossings.{plan_crossings}
use Rattle.graph.specs.Nets.{net_visits, net_crossings}
use Rattle.graph.specs.declared.graph.Graph.{Graph}
use Rattle.graph.specs.Graphs.{held, GraphOf}

-- a graph's plan, visits and crossings
abbrev pub graph_draft : Graph → Draft
graph_draft g = held g.plan

abbrev pub graph_visits : Graph → List Visit
graph_visits g = net_visits g.net

abbrev pub graph_crossings : Graph → List Crossing
graph_crossings g = net_crossings g.net

abbrev pub graph_number : GraphFault → ℕ
graph_number f = (graph_report f).number

-- a fault applies to the bytes b
abbrev pub GraphApplies : List ℕ → GraphFault → Type 0
GraphApplies b (Plan f) = Applies b f
GraphApplies b Crossings = 1024 < length (plan_crossings (plan_visits (draft b)))

-- The verdict on a record's bytes b: what they say, and then no fault applies to them; or the first fault that does, by number.
abbrev pub GraphJudged : List ℕ → Result Draft GraphFault → Type 0
GraphJudged b v = Verdict graph_number (GraphApplies b) (λ d. d ≡ draft b) v

-- b has no verdict but v
abbrev pub GraphOnly : List ℕ → Result Draft GraphFault → Type 0
GraphOnly b v = (w : Result Draft GraphFault) → GraphJudged b w → w ≡ v

-- A graph is that of its plan, and its plan has no other. The first carrier of each crossing goes on from its visit, so that the plan
-- edge leads from that carrier's next visit.
pub record GraphIs (g : Graph) : Type 0 where
  pub built : GraphOf (graph_draft g) (graph_visits g) (graph_crossings g)
  pub single :
      (vs : List Visit) (cs : List Crossing) → GraphOf (graph_draft g) vs cs → (vs ≡ graph_visits g) × (cs ≡ graph_crossings g)
  pub leaves : (k : ℕ) → k < length (graph_crossings g) → has_next (graph_visits g) (crossing (graph_crossings g) k).first ≡ true

-- what a load tells: what the plan of the graph says that it made, or a fault
abbrev pub graph_told : Result Unit GraphFault → Graph → Result Draft GraphFault
graph_told (Ok u) g = Ok (graph_draft g)
graph_told (Err f) g = Err f

-- the same of a graph that is made anew
abbrev pub made_told : Result Graph GraphFault → Result Draft GraphFault
made_told (Ok g) = Ok (graph_draft g)
made_told (Err f) = Err f
