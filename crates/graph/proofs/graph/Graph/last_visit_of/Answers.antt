use Rattle.std.proofs.Common.{◌<◌, rules, tests}
use Rattle.graph.specs.Verdicts.{graph_draft}
use Rattle.graph.proofs.Arrive.{graph_last}
use Rattle.graph.proofs.graph.Graph.last_visit_of.Goals as goal

pub returns-clause-there : goal.returns-clause-there
returns-clause-there c =
    let g = c.args.self.now in
    let last = λ (known : c.args.carrier < (graph_draft g).carriers). (graph_last g c.args.carrier known).0 in
    let k = c.in_ok-as_ref.ensures.value in
    search (rules, tests, last)
