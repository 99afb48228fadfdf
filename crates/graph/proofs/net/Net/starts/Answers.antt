use Rattle.std.proofs.Common.{length, ap, arith}
use Rattle.graph.proofs.Started.{front_few, untouched}
use Rattle.graph.proofs.net.Net.starts.Goals as goal

pub returns-clause-past : goal.returns-clause-past
returns-clause-past g c v h =
    let seen = ap length c.visits.ensures in
    untouched c.loop-visit.value-items (length c.visits.result.now) 512 c.zero-starts.result _ v c.zero-starts.ensures
    (front_few c.loop-visit.value-items _ _ v c.loop-visit.auto.value-items (omega (arith, seen)))
