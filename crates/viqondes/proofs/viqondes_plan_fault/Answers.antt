use Rattle.std.proofs.Common.{◌≡◌, Ok, Err, Result, refl, ◌∙◌}
use Rattle.fault.specs.declared.kinds.GraphFault.{GraphFault}
use Rattle.graph.specs.declared.graph.Graph.{Graph}
use Rattle.graph.specs.Verdicts.{graph_told}
use Rattle.viqondes.specs.Numbers.{answer_number}
use Rattle.viqondes.proofs.viqondes_plan_fault.Goals as goal

-- what a load tells has the number of its answer
same_number : (r : Result Unit GraphFault) (g : Graph) → answer_number r ≡ answer_number (graph_told r g)
same_number (Ok u) g = refl
same_number (Err f) g = refl

pub returns : goal.returns
returns c =
    let g = c.load.new.self in
    (graph_told c.load.result g, c.load.ensures.judged, c.number.ensures ∙ same_number c.load.result g)
