use Rattle.std.proofs.Common.{◌≡◌}
use Rattle.fixed.specs.Items.{items}
use Rattle.record.specs.Paths.{paths_draft}
use Rattle.visit.specs.Visits.{first_visits}
use Rattle.visit.proofs.visits.visits_of.Given as goal

abbrev pub invariant-loop-carrier : goal.invariant-loop-carrier
invariant-loop-carrier l = items l.visits ≡ first_visits (paths_draft l.paths).entries l.carrier
