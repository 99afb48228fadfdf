use Rattle.std.proofs.Common.{◌≡◌, ◌+◌, ◌-◌, ◌≤◌, length, None, Some, refl, ap, below_more, arith}
use Rattle.record.specs.declared.header.Header.{Header}
use Rattle.record.specs.Paths.{paths_draft}
use Rattle.record.proofs.Sound.{draft_length}
use Rattle.plan.proofs.Moments.{none_here, first_here, soonest_of}
use Rattle.plan.proofs.conflicts.soonest.Goals as goal

pub returns-in-Some : goal.returns-in-Some
returns-in-Some c =
    let paths = c.args.paths.now in
    let d = paths_draft paths in
    let all = ap (λ (h : Header). h.entries) c.header-step-end.ensures in
    let here = first_here d paths.header.manned.1 c.loop-step.step _ c.at-moment.ensures c.args.kind _ _ c.in-Some.ensures in
    soonest_of d c.args.kind (length d.entries) refl (omega (arith, draft_length paths, all, c.loop-step-test.true)) (Some _)
    (c.loop-step.step, omega (arith, draft_length paths, all, c.loop-step-test.true), here, c.loop-step.invariant.none)

pub loop-step-preserved : goal.loop-step-preserved
loop-step-preserved c =
    let paths = c.args.paths.now in
    let before : c.loop-step.step + 1 - 1 ≡ c.loop-step.step = omega arith in
    record {
      none = below_more _ _ c.loop-step.invariant.none
          (none_here (paths_draft paths) paths.header.manned.1 c.loop-step.step _ c.at-moment.ensures c.args.kind c.in_default.ensures);
      was = rw before c.at-moment.ensures.is;
    }

pub returns : goal.returns
returns c =
    let paths = c.args.paths.now in
    let all = ap (λ (h : Header). h.entries) c.header-step-end.ensures in
    let long : length (paths_draft paths).entries ≤ c.loop-step.step = omega (arith, draft_length paths, all, c.loop-step-test.false) in
    soonest_of (paths_draft paths) c.args.kind (length (paths_draft paths).entries) refl
    (omega (arith, draft_length paths, paths.header.listed, paths.header.manned)) None (λ k h. c.loop-step.invariant.none k (omega arith))
