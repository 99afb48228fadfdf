use Rattle.std.proofs.Common.{◌≡◌, ℕ, ◌<◌, cond, get_or}
use Rattle.walk.specs.Edges.{visit, is_start}
use Rattle.graph.specs.Nets.{net_visits}
use Rattle.graph.proofs.net.Net.starts.Given as goal

abbrev pub invariant-loop-visit : goal.invariant-loop-visit
invariant-loop-visit g l =
    let blank = g.K.Kind.ops.zero in
    let vs = net_visits l.self in
    (k : ℕ) → k < l.visit → get_or l.value-items k blank ≡ cond (is_start vs k) (g.K.Starting.starting (visit vs k)) blank
