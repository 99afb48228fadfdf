use Rattle.std.specs.List.{range_with_len, flat_map}
use Rattle.std.specs.Fmt.{HasWritten, IsPlainFormatter}
use Rattle.graph.specs.Verdicts.{graph_draft, graph_visits, graph_crossings}
use Rattle.listing.specs.Texts.{carrier_line}
use Rattle.listing.proofs.CarrierLinesDisplay.fmt.Given as goal

abbrev pub invariant-loop-carrier : goal.invariant-loop-carrier
invariant-loop-carrier g l =
    IsPlainFormatter l.initial.f → HasWritten g.W.Write.write_str_gives l.initial.f (flat_map (carrier_line (graph_draft l.graph) (graph_visits l.graph) (graph_crossings l.graph)) (range_with_len 0 l.carrier)) l.f
