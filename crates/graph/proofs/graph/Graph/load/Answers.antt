use Rattle.std.proofs.Common.{sym, subst}
use Rattle.graph.specs.Verdicts.{GraphJudged}
use Rattle.graph.proofs.Facts.{graph_acyclic}
use Rattle.graph.proofs.Single.{one_verdict, graph_is}
use Rattle.graph.proofs.graph.Graph.load.Goals as goal

pub returns-clause-only : goal.returns-clause-only
returns-clause-only c w =
    let b = c.args.bytes.now in
    one_verdict b _ w (subst (GraphJudged b) (sym c.take_over.ensures.told) c.read_graph.ensures)

pub returns-clause-built : goal.returns-clause-built
returns-clause-built c = graph_is c.take_over.new.graph

pub returns-clause-acyclic : goal.returns-clause-acyclic
returns-clause-acyclic c = graph_acyclic c.take_over.new.graph
