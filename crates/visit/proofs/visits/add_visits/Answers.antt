use Rattle.std.proofs.Common.{◌++◌, [], ◌∷◌, length, ap, ◌∙◌, rules, arith}
use Rattle.std.proofs.lemmas.List.{length-append}
use Rattle.std.proofs.lemmas.Result.{MatchResult-at_ok}
use Rattle.fixed.specs.Items.{items}
use Rattle.record.specs.Paths.{paths_draft}
use Rattle.record.specs.Steps.{path, visit_at}
use Rattle.visit.specs.Visits.{visit_of}
use Rattle.visit.proofs.Picked.{picked, picked_grows, adds_yes, adds_no}
use Rattle.visit.proofs.Entered.{as_many, told, as_visit}
use Rattle.visit.proofs.visits.add_visits.Goals as goal
use Rattle.visit.proofs.visits.add_visits.Goals.{then-is_visit, else-is_visit}

-- a visit less than the carrier's all has been added, so one more has room
pub unwrap-requires : goal.unwrap-requires
unwrap-requires c =
    let i = c.args.carrier in
    let es = (paths_draft c.args.paths.now).entries in
    let r = path es i in
    let n = c.loop-step.step in
    let all = as_many es i _ c.path-path.ensures.own in
    let yes = told es i _ c.path-path.ensures.own n _ c.is_visit.ensures ∙ c.if-is_visit.true in
    let grows = picked_grows (visit_of i r) (visit_at r) n (length r) (omega (arith, all)) yes in
    let held = ap length c.loop-step.invariant ∙ length-append (items c.args.visits.now) (picked (visit_of i r) (visit_at r) n) in
    search rules

pub loop-step-preserved : goal.loop-step-preserved
loop-step-preserved c =
    let i = c.args.carrier in
    let es = (paths_draft c.args.paths.now).entries in
    let own = c.path-path.ensures.own in
    let r = path es i in
    let n = c.loop-step.step in
    let f = visit_of i r in
    let old = items c.args.visits.now in
    let before = items c.loop-step.visits in
    let after = items c.if-is_visit.visits in
    let is = told es i _ own n _ c.is_visit.ensures in
    elim c.if-is_visit.branch [
      | then-is_visit w ↦
          adds_yes f (visit_at r) old before after n c.loop-step.invariant (is ∙ w.if-is_visit.true)
          (ap items w.visits-is ∙ MatchResult-at_ok _ _ _ w.unwrap.ensures w.push.ensures
          ∙ ap (λ v. before ++ v ∷ []) (w.visit_of.ensures ∙ as_visit es i _ own n _ (search rules)))
      | else-is_visit w ↦ adds_no f (visit_at r) old before after n c.loop-step.invariant (is ∙ w.if-is_visit.false) (ap items w.visits-is)
    ]
