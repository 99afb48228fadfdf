-- What floorlist prints.
use Rattle.std.specs.Prelude.{◌≡◌, ℕ, Bool, true, false, List, [], ◌∷◌, ◌++◌, length, Ok, Err, codes, decimal, Result}
use Rattle.std.specs.List.{range_with_len, flat_map}
use Rattle.std.specs.Option.{unwrap_or}
use Rattle.fault.specs.declared.kinds.GraphFault.{GraphFault}
use Rattle.fault.specs.Reports.{graph_report, report_text}
use Rattle.record.specs.Layout.{Draft, front}
use Rattle.record.specs.Steps.{visits}
use Rattle.walk.specs.declared.visit.Visit.{Visit}
use Rattle.walk.specs.declared.crossing.Crossing.{Crossing}
use Rattle.walk.specs.Edges.{crossing}
use Rattle.graph.specs.Graphs.{GraphOf}
use Rattle.graph.specs.Verdicts.{GraphJudged}
use Rattle.graph.specs.Figures.{earliest_step, relied_on}

-- words with a space between each two, and the line's end
abbrev pub line : List (List ℕ) → List ℕ
line [] = codes "\n"
line (w ∷ []) = w ++ codes "\n"
line (w ∷ v ∷ vs) = w ++ (codes " " ++ line (v ∷ vs))

abbrev pub plan_line : Draft → List ℕ
plan_line d =
    line (codes "plan" ∷ decimal d.width ∷ decimal d.height ∷ decimal d.carriers ∷ decimal (length d.entries) ∷ [])

-- A carrier that the plan has is reached, so that both of its figures are there.
abbrev pub carrier_line : Draft → List Visit → List Crossing → ℕ → List ℕ
carrier_line d vs cs i =
    line (codes "carrier" ∷ decimal i ∷ codes "visits" ∷ decimal (visits d i) ∷ codes "earliest" ∷ decimal (unwrap_or (earliest_step d vs cs i) 0) ∷ codes "relies" ∷ decimal (unwrap_or (relied_on d vs cs i) 0) ∷ [])

abbrev pub way_text : Bool → List ℕ
way_text true = codes "twoway"
way_text false = codes "oneway"

abbrev pub crossing_line : ℕ → Crossing → List ℕ
crossing_line k x =
    line (codes "crossing" ∷ decimal k ∷ codes "cell" ∷ decimal x.cell ∷ codes "first" ∷ decimal x.first ∷ codes "second" ∷ decimal x.second ∷ way_text x.two_way ∷ [])

abbrev pub refusal_line : GraphFault → List ℕ
refusal_line f = line (codes "refused" ∷ report_text (graph_report f) ∷ [])

-- the plan's line, then a line for each carrier, then one for each crossing
abbrev pub graph_text : Draft → List Visit → List Crossing → List ℕ
graph_text d vs cs =
    plan_line d
    ++ flat_map (carrier_line d vs cs) (range_with_len 0 d.carriers)
    ++ flat_map (λ k. crossing_line k (crossing cs k)) (range_with_len 0 (length cs))

-- the text of a plan is that of its graph
abbrev pub TextOf : Result Draft GraphFault → List ℕ → Type 0
TextOf (Ok d) text = (vs : List Visit) × (cs : List Crossing) × GraphOf d vs cs × (text ≡ graph_text d vs cs)
TextOf (Err f) text = text ≡ refusal_line f

-- the text for the input b is that of the verdict on the record at its front
abbrev pub Listed : List ℕ → List ℕ → Type 0
Listed b text = (v : Result Draft GraphFault) × GraphJudged (front b) v × TextOf v text
