use Rattle.std.proofs.Common.{◌≡◌, ◌++◌, length}
use Rattle.std.specs.List.{range_with_len, flat_map}
use Rattle.fixed.specs.Items.{items}
use Rattle.graph.specs.Links.{crossing_links}
use Rattle.graph.specs.Inputs.{ways_in}
use Rattle.graph.specs.Nets.{net_visits, net_crossings}
use Rattle.graph.proofs.net.Net.links.Given as goal

abbrev pub invariant-loop-crossing : goal.invariant-loop-crossing
invariant-loop-crossing l =
    let f = crossing_links (net_visits l.fn.self) (net_crossings l.fn.self) (ways_in l.ways) in
    items l.links ≡ items l.initial.links ++ flat_map f (range_with_len 0 (length l.yielded))
