use Rattle.std.proofs.Common.{◌<◌, length, ap, sym, ◌∙◌, refl, rules, arith}
use Rattle.std.specs.List.{range_with_len, filter_map}
use Rattle.std.proofs.lemmas.Iterator.{YieldsList-from_range}
use Rattle.std.proofs.lemmas.Iterator.Consumers.{YieldsList-at, YieldsList-from_filter_map, YieldsList-turn, YieldsList-end}
use Rattle.std.proofs.lemmas.List.{map-id}
use Rattle.fixed.specs.Items.{items}
use Rattle.fixed.proofs.Held.{items_few}
use Rattle.graph.specs.Links.{path_link}
use Rattle.graph.specs.Nets.{net_visits}
use Rattle.graph.proofs.Linked.{path_few}
use Rattle.graph.proofs.net.Net.add_path_links.Goals as goal

pub unwrap-requires : goal.unwrap-requires
unwrap-requires c =
    let vs = net_visits c.args.self.now in
    let n = length c.visits.result.now in
    let turn = YieldsList-turn
    (YieldsList-at c.into_iter-link-iterator.ensures.into_iter_gives
    (YieldsList-from_filter_map _ (path_link vs) (YieldsList-at c.filter_map-link-items.ensures.source (YieldsList-from_range 0 n n refl (omega arith))) c.filter_map-link-items.ensures.closure (λ x r q k. search rules)))
    c.loop-link.yielded _ c.loop-link.yielded_by _ _ c.in-Some.link c.in-Some.is c.next.ensures.steps in
    let room : length (items c.loop-link.links) < 2560 =
    omega (
      arith,
      turn.0,
      path_few vs n,
      ap length c.loop-link.invariant,
      ap length c.visits.ensures,
      items_few c.args.self.now.visits,
    ) in
    search rules

pub returns : goal.returns
returns c =
    let vs = net_visits c.args.self.now in
    let n = length c.visits.result.now in
    let seen = YieldsList-end
    (YieldsList-at c.into_iter-link-iterator.ensures.into_iter_gives
    (YieldsList-from_filter_map _ (path_link vs) (YieldsList-at c.filter_map-link-items.ensures.source (YieldsList-from_range 0 n n refl (omega arith))) c.filter_map-link-items.ensures.closure (λ x r q k. search rules)))
    c.loop-link.yielded _ c.loop-link.yielded_by _ _ c.in-None.is c.next.ensures.steps in
    c.loop-link.invariant ∙ sym (map-id c.loop-link.yielded) ∙ seen.0
    ∙ ap (λ m. filter_map (path_link vs) (range_with_len 0 m)) (ap length c.visits.ensures)
