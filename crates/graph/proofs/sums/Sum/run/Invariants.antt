use Rattle.std.proofs.Common.{◌≡◌, ℕ, ◌<◌, length, get_or}
use Rattle.walk.specs.Sums.{sum_over}
use Rattle.graph.specs.Links.{link_from, link_to}
use Rattle.graph.proofs.sums.Sum.run.Given as goal

abbrev pub invariant-loop-round : goal.invariant-loop-round
invariant-loop-round g l =
    let ops = g.K.Kind.ops in
    let vs = l.fn.self.visits.now in
    record {
      sums_size : length l.sums ≡ length vs;
      next_size : length l.next ≡ length vs;
      twins : 0 < l._round → l.next ≡ l.sums;
      so_far : (v : ℕ) → v < length vs → get_or l.sums v ops.zero ≡ sum_over ops vs link_from link_to l.fn.self.links.now (λ u. get_or l.fn.self.start.now u ops.zero) l._round v;
    }
