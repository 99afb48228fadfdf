use Rattle.std.proofs.Common.{◌≡◌, ◌++◌, length, drop, sym, ap, ◌∙◌, arith}
use Rattle.std.proofs.lemmas.List.FromFn.{length-map-range_with_len}
use Rattle.walk.proofs.Listed.{lists_walks}
use Rattle.walk.specs.Sums.{sum_at}
use Rattle.graph.specs.Inputs.{ways_in, starts_in}
use Rattle.graph.specs.Verdicts.{graph_visits, graph_crossings}
use Rattle.graph.specs.Figures.{sums_of}
use Rattle.graph.proofs.Along.{starts_cut}
use Rattle.graph.proofs.graph.Graph.sum.Goals as goal

pub returns-then-is_short-clause-walks : goal.returns-then-is_short-clause-walks
returns-then-is_short-clause-walks g c = lists_walks (graph_visits c.args.self.now) (graph_crossings c.args.self.now)

pub returns-clause-walks : goal.returns-clause-walks
returns-clause-walks g c = lists_walks (graph_visits c.args.self.now) (graph_crossings c.args.self.now)

pub returns-clause-summed : goal.returns-clause-summed
returns-clause-summed g c =
    let ops = g.K.Kind.ops in
    let graph = c.args.self.now in
    let vs = graph_visits graph in
    let cs = graph_crossings graph in
    let ways = ways_in c.args.ways.now in
    let start = c.args.start.now in
    let seen = ap length c.visits-count.ensures in
    let found : c.sum.new.sums ≡ sums_of ops vs cs ways start =
    rw (c.sum.ensures.sums, c.visits-count.ensures) (starts_cut ops g.met.K.Kind.laws vs cs ways start graph.net.between) in
    let all : length (sums_of ops vs cs ways start) ≡ length vs = length-map-range_with_len (sum_at ops vs cs ways (starts_in ops.zero start)) 0 (length vs) in
    let past = seen ∙ sym all in
    let long = c.if-is_short.false in (
      omega (arith, c.is_short.ensures.start long),
      (omega (arith, c.is_short.ensures.sums long), λ i. found i ++ drop (past i) c.args.sums.now),
      (omega (arith, c.is_short.ensures.spare long), λ i. (c.sum.ensures.spare ∙ found) i ++ drop (past i) c.args.spare.now),
    )
