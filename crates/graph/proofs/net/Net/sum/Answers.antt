use Rattle.std.proofs.Common.{◌≡◌, length, sym, ap, ◌∙◌, arith}
use Rattle.std.proofs.lemmas.List.FromFn.{fill_by_all}
use Rattle.walk.specs.Edges.{edges}
use Rattle.walk.specs.Sums.{sum_at}
use Rattle.graph.specs.Inputs.{ways_in, starts_in}
use Rattle.graph.specs.Nets.{net_visits, net_crossings}
use Rattle.graph.proofs.Along.{links_within, sum_links}
use Rattle.graph.proofs.net.Net.sum.Goals as goal

pub invariant_of-sum : goal.invariant_of-sum
invariant_of-sum g c =
    let net = c.args.self.now in
    let vs = net_visits net in
    let within = links_within vs (net_crossings net) (ways_in c.args.ways.now) net.between in
    record {
      inside = rw (c.as_slice.ensures, c.links-links.ensures, c.visits.ensures) within;
      started = c.requires.start ∙ sym (ap length c.visits.ensures);
    }

pub returns-clause-sums : goal.returns-clause-sums
returns-clause-sums g c =
    let ops = g.K.Kind.ops in
    let net = c.args.self.now in
    let vs = net_visits net in
    let cs = net_crossings net in
    let ways = ways_in c.args.ways.now in
    let start = starts_in ops.zero c.args.start.now in
    let size : length c.run.new.sums ≡ length vs = omega (arith, c.requires.sums) in
    fill_by_all (sum_at ops vs cs ways start) c.run.new.sums (length vs) ops.zero size (λ v h.
    rw (c.run.ensures.sums v (rw c.visits.ensures h), c.visits.ensures, c.as_slice.ensures, c.links-links.ensures)
    (sum_links ops g.met.K.Kind.laws vs cs (edges vs cs ways) start (length vs) v))
