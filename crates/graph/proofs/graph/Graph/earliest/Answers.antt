use Rattle.graph.proofs.Arrive.{graph_arrives}
use Rattle.graph.proofs.graph.Graph.earliest.Goals as goal

pub returns-clause-arrives : goal.returns-clause-arrives
returns-clause-arrives c = graph_arrives c.args.self.now c.args.carrier
