use Rattle.std.proofs.Common.{◌≡◌, ◌++◌, length, sym, ap, ◌∙◌, arith}
use Rattle.std.specs.List.{range_with_len, flat_map}
use Rattle.std.specs.Option.{option_to_list}
use Rattle.std.proofs.lemmas.List.{length-append, length_push}
use Rattle.std.proofs.lemmas.Slice.Zip.{zip_turn, zip_end}
use Rattle.fixed.specs.Items.{items}
use Rattle.fixed.proofs.Held.{items_few}
use Rattle.walk.specs.Edges.{no_crossing}
use Rattle.graph.specs.Links.{crossing_links}
use Rattle.graph.specs.Inputs.{ways_in}
use Rattle.graph.specs.Nets.{net_visits, net_crossings}
use Rattle.graph.proofs.Linked.{room_left, crossing_more, one_few, links_are}
use Rattle.graph.proofs.net.Net.links.Goals as goal

pub add-requires : goal.add-requires
add-requires c =
    let net = c.args.self.now in
    let turn = zip_turn (net_crossings net) c.args.ways.now c.loop-crossing.yielded c.into_iter-crossing-iterator.result c.loop-crossing.crossing-iterator c.next.new.self c.next.result (cc) (cc) c.loop-crossing.yielded_by (c.in-Some.crossing, c.in-Some.taken) c.in-Some.is c.next.ensures.steps in
    omega (arith, room_left (net_visits net) (net_crossings net) (ways_in c.args.ways.now) _ _ _ c.add_path_links.ensures c.loop-crossing.invariant turn.0 (items_few net.visits) (items_few net.crossings))

pub add-requires-in-loop-crossing : goal.add-requires-in-loop-crossing
add-requires-in-loop-crossing c =
    let net = c.args.self.now in
    let turn = zip_turn (net_crossings net) c.args.ways.now c.loop-crossing.yielded c.into_iter-crossing-iterator.result c.loop-crossing.crossing-iterator c.next.new.self c.next.result (cc) (cc) c.loop-crossing.yielded_by (c.in-Some.crossing, c.in-Some.taken) c.in-Some.is c.next.ensures.steps in
    let room = room_left (net_visits net) (net_crossings net) (ways_in c.args.ways.now) _ _ _ c.add_path_links.ensures c.loop-crossing.invariant turn.0 (items_few net.visits) (items_few net.crossings) in
    omega (arith, room, ap length c.add.ensures, length-append (items c.loop-crossing.links) (option_to_list c.plan_link.result), one_few c.plan_link.result)

pub loop-crossing-preserved : goal.loop-crossing-preserved
loop-crossing-preserved c =
    let net = c.args.self.now in
    let vs = net_visits net in
    let cs = net_crossings net in
    let ways = ways_in c.args.ways.now in
    let turn = zip_turn cs c.args.ways.now c.loop-crossing.yielded c.into_iter-crossing-iterator.result c.loop-crossing.crossing-iterator c.next.new.self c.next.result (cc) (cc) c.loop-crossing.yielded_by (c.in-Some.crossing, c.in-Some.taken) c.in-Some.is c.next.ensures.steps in
    let more = crossing_more vs cs ways (length c.loop-crossing.yielded) (items c.add_path_links.new.links) (items c.loop-crossing.links) (items c.add.new.links) (items c.add-in-loop-crossing.new.links) c.in-Some.crossing.now c.in-Some.taken.now (turn.2 no_crossing) (turn.3 _) c.loop-crossing.invariant
    (rw (← c.plan_link.ensures) c.add.ensures) (rw (← c.reversed_link.ensures) c.add-in-loop-crossing.ensures) in
    more ∙ ap (λ n. items c.add_path_links.new.links ++ flat_map (crossing_links vs cs ways) (range_with_len 0 n)) (sym (length_push c.loop-crossing.yielded _))

pub returns : goal.returns
returns c =
    let net = c.args.self.now in
    let vs = net_visits net in
    let cs = net_crossings net in
    let ways = ways_in c.args.ways.now in
    let all = zip_end cs c.args.ways.now c.loop-crossing.yielded c.into_iter-crossing-iterator.result c.loop-crossing.crossing-iterator c.next.new.self c.next.result (cc) (cc) c.loop-crossing.yielded_by c.in-None.is c.next.ensures.steps in
    let count : length c.loop-crossing.yielded ≡ length cs = omega (arith, items_few net.crossings) in
    c.loop-crossing.invariant
    ∙ (λ i. c.add_path_links.ensures i ++ flat_map (crossing_links vs cs ways) (range_with_len 0 (count i)))
    ∙ links_are vs cs ways
