-- A record's verdict as one number.
use Rattle.std.specs.Prelude.{◌≡◌, ℕ, List, Ok, Err, Result}
use Rattle.fault.specs.declared.kinds.GraphFault.{GraphFault}
use Rattle.record.specs.Layout.{Draft}
use Rattle.graph.specs.Verdicts.{graph_number, GraphJudged}

-- 0 for no fault, or the number of the fault
abbrev pub answer_number : {X : Type 0} → Result X GraphFault → ℕ
answer_number (Ok x) = 0
answer_number (Err f) = graph_number f

-- n is the number of the verdict on the bytes b
abbrev pub FaultNumber : List ℕ → ℕ → Type 0
FaultNumber b n = (v : Result Draft GraphFault) × GraphJudged b v × (n ≡ answer_number v)
