use Rattle.std.proofs.Common.{◌≡◌, ℕ, ◌<◌}
use Rattle.walk.specs.Ways.{test_ways}
use Rattle.graph.specs.Inputs.{ways_in}
use Rattle.graph.specs.Nets.{net_crossings}
use Rattle.graph.proofs.net.Net.test_ways.Given as goal

abbrev pub invariant-loop-other : goal.invariant-loop-other
invariant-loop-other l = (k : ℕ) → k < l.other → ways_in l.way-items k ≡ test_ways (net_crossings l.self) l.tested k
