use Rattle.std.proofs.Common.{◌≡◌}
use Rattle.fixed.specs.Items.{items}
use Rattle.graph.proofs.net.Net.add_path_links.Given as goal

abbrev pub invariant-loop-link : goal.invariant-loop-link
invariant-loop-link l = items l.links ≡ l.yielded
