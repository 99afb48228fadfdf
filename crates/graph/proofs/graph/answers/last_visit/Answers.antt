use Rattle.std.proofs.Common.{arith}
use Rattle.record.specs.Paths.{paths_draft}
use Rattle.record.proofs.Sound.{draft_few}
use Rattle.visit.proofs.Few.{carrier_count, first_more, visits_fit}
use Rattle.graph.proofs.graph.answers.last_visit.Goals as goal

pub overflow_add-visits_before : goal.overflow_add-visits_before
overflow_add-visits_before c =
    let es = (paths_draft c.args.paths.now).entries in
    omega (arith, visits_fit es c.args.carrier, carrier_count es c.args.carrier, draft_few c.args.paths.now)

pub returns : goal.returns
returns c =
    let es = (paths_draft c.args.paths.now).entries in
    omega (arith, first_more es c.args.carrier, carrier_count es c.args.carrier)
