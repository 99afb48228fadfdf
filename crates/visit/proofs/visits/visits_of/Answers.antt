use Rattle.std.proofs.Common.{[], length, ap, arith}
use Rattle.fixed.specs.Items.{items}
use Rattle.fixed.proofs.Counting.{one_more}
use Rattle.record.specs.Paths.{paths_draft}
use Rattle.record.proofs.Sound.{draft_few}
use Rattle.visit.specs.Visits.{carrier_visits}
use Rattle.visit.proofs.Few.{visits_fit}
use Rattle.visit.proofs.visits.visits_of.Goals as goal

pub add_visits-requires : goal.add_visits-requires
add_visits-requires c =
    let paths = c.args.paths.now in
    omega (arith, draft_few paths, visits_fit (paths_draft paths).entries c.loop-carrier.carrier, ap length c.loop-carrier.invariant)

pub loop-carrier-preserved : goal.loop-carrier-preserved
loop-carrier-preserved c =
    one_more (carrier_visits (paths_draft c.args.paths.now).entries) c.loop-carrier.carrier [] (items c.loop-carrier.visits) (items c.add_visits.new.visits) c.loop-carrier.invariant
    c.add_visits.ensures
