use Rattle.std.proofs.Common.{◌≡◌, length, get_or, sym, ap, ◌∙◌, rules, arith}
use Rattle.walk.proofs.Sums.{sum_none}
use Rattle.graph.specs.Links.{link_from, link_to}
use Rattle.graph.proofs.Rounds.{round_sum, sum_settled}
use Rattle.graph.proofs.sums.Sum.run.Goals as goal

pub loop-round-init : goal.loop-round-init
loop-round-init g c =
    let copied = c.copy_from_slice.ensures.after in
    let ops = g.K.Kind.ops in
    let it = c.args.self.now in
    record {
      sums_size = ap length copied ∙ it.started;
      next_size = c.requires.next;
      twins = search rules;
      so_far = λ v h. rw copied (sym (sum_none ops g.met.K.Kind.laws it.visits.now link_from link_to (λ u. get_or it.start.now u ops.zero) it.links.now v));
    }

pub loop-round-preserved : goal.loop-round-preserved
loop-round-preserved g c =
    let copied = c.settle.ensures.after in
    let ops = g.K.Kind.ops in
    let it = c.args.self.now in
    let size : length c.round.new.next ≡ length it.visits.now = omega (arith, c.loop-round.invariant.next_size) in
    record {
      sums_size = ap length copied ∙ size;
      next_size = size;
      twins = λ h. sym copied;
      so_far = λ v h.
          rw (copied, c.round.ensures v h)
          (round_sum ops g.met.K.Kind.laws it.visits.now it.start.now c.loop-round.sums it.links.now c.loop-round._round (length it.visits.now) it.inside c.loop-round.invariant.so_far v);
    }

pub returns-then-settle-clause-sums : goal.returns-then-settle-clause-sums
returns-then-settle-clause-sums g c v h =
    let ops = g.K.Kind.ops in
    let it = c.args.self.now in
    rw c.settle.ensures.after
    (sum_settled ops g.met.K.Kind.laws it.visits.now it.start.now c.loop-round.sums c.round.new.next it.links.now c.loop-round._round (length it.visits.now) it.inside (omega arith) (c.settle.ensures.quiet.0 c.if-settle.true) c.round.ensures c.loop-round.invariant.so_far v h)
