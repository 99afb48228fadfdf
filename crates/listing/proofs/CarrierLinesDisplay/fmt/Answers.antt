use Rattle.std.proofs.Common.{rules, sym}
use Rattle.std.proofs.Output.{has_written_append, has_written_of_eq}
use Rattle.fixed.proofs.Counting.{joined_counting}
use Rattle.graph.specs.Verdicts.{graph_draft, graph_visits, graph_crossings}
use Rattle.listing.specs.Texts.{carrier_line}
use Rattle.listing.proofs.CarrierLinesDisplay.fmt.Goals as goal

pub loop-carrier-preserved : goal.loop-carrier-preserved
loop-carrier-preserved g c p =
    let graph = c.args.self.now.0.now in
    let more = joined_counting (carrier_line (graph_draft graph) (graph_visits graph) (graph_crossings graph)) c.loop-carrier.carrier in
    has_written_of_eq _ _ _ _ _ (sym more) (has_written_append _ _ _ _ _ _ (c.loop-carrier.invariant p) (search rules))
