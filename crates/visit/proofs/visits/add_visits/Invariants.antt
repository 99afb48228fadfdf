use Rattle.std.proofs.Common.{◌≡◌, ◌++◌}
use Rattle.fixed.specs.Items.{items}
use Rattle.record.specs.Paths.{paths_draft}
use Rattle.record.specs.Steps.{path, visit_at}
use Rattle.visit.specs.Visits.{visit_of}
use Rattle.visit.proofs.Picked.{picked}
use Rattle.visit.proofs.visits.add_visits.Given as goal

abbrev pub invariant-loop-step : goal.invariant-loop-step
invariant-loop-step l =
    let r = path (paths_draft l.paths).entries l.carrier in
    items l.visits ≡ items l.initial.visits ++ picked (visit_of l.carrier r) (visit_at r) l.step
