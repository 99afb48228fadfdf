use Rattle.std.specs.List.{range_with_len, flat_map}
use Rattle.std.specs.Fmt.{HasWritten, IsPlainFormatter}
use Rattle.walk.specs.Edges.{crossing}
use Rattle.listing.specs.Texts.{crossing_line}
use Rattle.listing.proofs.CrossingLinesDisplay.fmt.Given as goal

abbrev pub invariant-loop-number : goal.invariant-loop-number
invariant-loop-number g l =
    IsPlainFormatter l.initial.f → HasWritten g.W.Write.write_str_gives l.initial.f (flat_map (λ k. crossing_line k (crossing l.self.0.now k)) (range_with_len 0 l.number)) l.f
