use Rattle.std.proofs.Common.{◌≡◌, ◌++◌}
use Rattle.fixed.specs.Items.{items}
use Rattle.visit.specs.Crossings.{crosses, crossing_of, crossings_below}
use Rattle.visit.proofs.Picked.{picked}
use Rattle.visit.proofs.crossings.crossings_of.Given as goal

abbrev pub invariant-loop-u : goal.invariant-loop-u
invariant-loop-u l = items l.crossings ≡ crossings_below l.visits l.u

abbrev pub invariant-loop-w : goal.invariant-loop-w
invariant-loop-w l =
    items l.crossings ≡ crossings_below l.visits l.u ++ picked (crossing_of l.visits l.u) (crosses l.visits l.u) l.w
