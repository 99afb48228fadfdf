use Rattle.std.proofs.Common.{◌≡◌, ◌<◌, map, length, drop, arith}
use Rattle.std.specs.List.{range_with_len}
use Rattle.std.proofs.lemmas.List.{get_or_append_left}
use Rattle.std.proofs.lemmas.List.FromFn.{length-map-range_with_len, get_or-map-range_with_len}
use Rattle.walk.specs.Sums.{sum_at}
use Rattle.graph.specs.Inputs.{ways_in, starts_in}
use Rattle.graph.specs.Nets.{net_visits, net_crossings}
use Rattle.graph.proofs.Along.{starts_cut}
use Rattle.graph.proofs.net.Net.sum_at.Goals as goal

pub returns : goal.returns
returns g c =
    let ops = g.K.Kind.ops in
    let net = c.args.self.now in
    let vs = net_visits net in
    let cs = net_crossings net in
    let ways = ways_in c.args.ways.now in
    let v = c.args.visit in
    let start = c.args.start.now in
    let f = sum_at ops vs cs ways (starts_in ops.zero start) in
    let sums : c.sum.new.sums ≡ map f (range_with_len 0 (length vs)) =
    rw (c.sum.ensures.sums, c.visits-count.ensures) (starts_cut ops g.met.K.Kind.laws vs cs ways start net.between) in
    let within : v < length c.sum.new.sums = rw (sums, length-map-range_with_len f 0 (length vs)) c.requires in
    rw (get_or_append_left c.sum.new.sums (drop (length c.visits-count.result.now) start) c.index-sums-visit.result v within, sums)
    (get_or-map-range_with_len f 0 (length vs) v v c.index-sums-visit.result c.requires (omega arith))
