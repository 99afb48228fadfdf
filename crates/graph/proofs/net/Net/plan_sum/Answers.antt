use Rattle.std.proofs.Common.{◌≡◌, length, ap, ◌∙◌, arith}
use Rattle.fixed.proofs.Held.{items_few}
use Rattle.walk.specs.Edges.{from, to}
use Rattle.walk.specs.Sums.{sum_over, sum_at}
use Rattle.graph.specs.Inputs.{ways_in, starts_in}
use Rattle.graph.specs.Nets.{net_visits, net_crossings}
use Rattle.graph.specs.Figures.{starts, plan_ways}
use Rattle.graph.proofs.Alike.{edges_same}
use Rattle.graph.proofs.Started.{start_is}
use Rattle.graph.proofs.net.Net.plan_sum.Goals as goal

pub returns : goal.returns
returns g c =
    let ops = g.K.Kind.ops in
    let own = g.K.Starting.starting in
    let net = c.args.self.now in
    let vs = net_visits net in
    let cs = net_crossings net in
    let ways = ways_in c.plan_ways.result in
    let v = c.args.visit in
    let begins = starts_in ops.zero (starts ops.zero own vs) in
    let start : starts_in ops.zero c.starts.result ≡ begins =
    λ i k. start_is ops.zero own vs k (starts_in ops.zero c.starts.result k) (c.starts.ensures.there k) (c.starts.ensures.past k) i in
    c.sum_at.ensures
    ∙ ap (λ s. sum_at ops vs cs ways s v) start
    ∙ ap (λ es. sum_over ops vs (from cs) (to cs) es begins (length vs) v) (edges_same vs cs ways plan_ways (λ k h. c.plan_ways.ensures k (omega (arith, items_few net.crossings))))
