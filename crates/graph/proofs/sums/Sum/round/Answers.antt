use Rattle.std.proofs.Common.{◌<◌, length, ap, ◌∙◌, arith}
use Rattle.std.proofs.lemmas.List.{length-set}
use Rattle.graph.proofs.Rounds.{link_at, round_none, round_set}
use Rattle.graph.proofs.sums.Sum.round.Goals as goal

pub loop-link-init : goal.loop-link-init
loop-link-init g c =
    let copied = c.copy_from_slice.ensures.after in
    let ops = g.K.Kind.ops in
    let it = c.args.self.now in
    record {
      size = ap length copied ∙ it.started;
      so_far = λ v h. rw copied (round_none ops g.met.K.Kind.laws it.visits.now it.start.now c.args.values.now it.links.now v);
    }

pub loop-link-preserved : goal.loop-link-preserved
loop-link-preserved g c =
    let ops = g.K.Kind.ops in
    let it = c.args.self.now in
    let i = c.loop-link.link-index in
    let inside : (link_at it.links.now i).to < length c.loop-link.next = omega (arith, (it.inside i c.loop-link-test.true).1, c.loop-link.invariant.size) in
    record {
      size = rw c.bring.ensures (simp length-set c.loop-link.invariant.size);
      so_far = λ v h.
          rw c.bring.ensures
          (round_set ops g.met.K.Kind.laws it.visits.now it.start.now c.args.values.now c.loop-link.next it.links.now i c.loop-link-test.true inside v (c.loop-link.invariant.so_far v h));
    }
