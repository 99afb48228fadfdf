use Rattle.std.proofs.Common.{◌≡◌, ℕ, ◌<◌, length, get_or, take}
use Rattle.graph.specs.Rounds.{round_at}
use Rattle.graph.proofs.sums.Sum.round.Given as goal

abbrev pub invariant-loop-link : goal.invariant-loop-link
invariant-loop-link g l =
    let ops = g.K.Kind.ops in
    let vs = l.fn.self.visits.now in
    record {
      size : length l.next ≡ length vs;
      so_far : (v : ℕ) → v < length vs → get_or l.next v ops.zero ≡ round_at ops vs l.fn.self.start.now l.values (take l.link-index l.fn.self.links.now) v;
    }
