use Rattle.std.proofs.Common.{rules}
use Rattle.plan.specs.Plans.{told, Judged}
use Rattle.plan.proofs.Only.{only}
use Rattle.plan.proofs.Verdicts.{accepted_judged}
use Rattle.plan.proofs.accepted.reads.PlanTryFromRefSliceU8.try_from.Goals as goal

pub returns-in_err-try_from : goal.returns-in_err-try_from
returns-in_err-try_from c =
    let x : Judged c.args.bytes.now (told c.from_residual.result) = search rules in
    record { judged = x; only = λ w. only c.args.bytes.now _ w x }

pub returns : goal.returns
returns c =
    let (same, sound) = c.in_ok-try_from.ensures in
    let x = accepted_judged c.args.bytes.now _ same sound _ c.accept.ensures in
    record { judged = x; only = λ w. only c.args.bytes.now _ w x }
