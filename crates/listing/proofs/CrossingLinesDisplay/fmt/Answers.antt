use Rattle.std.proofs.Common.{rules, sym}
use Rattle.std.proofs.Output.{has_written_append, has_written_of_eq}
use Rattle.fixed.proofs.Counting.{joined_counting}
use Rattle.walk.specs.Edges.{crossing}
use Rattle.listing.specs.Texts.{crossing_line}
use Rattle.listing.proofs.CrossingLinesDisplay.fmt.Goals as goal

pub loop-number-preserved : goal.loop-number-preserved
loop-number-preserved g c p =
    let more = joined_counting (λ k. crossing_line k (crossing c.args.self.now.0.now k)) c.loop-number.number in
    has_written_of_eq _ _ _ _ _ (sym more) (has_written_append _ _ _ _ _ _ (c.loop-number.invariant p) (search rules))
