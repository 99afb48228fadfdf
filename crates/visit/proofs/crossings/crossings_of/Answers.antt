use Rattle.std.proofs.Common.{◌≡◌, ◌+◌, ◌++◌, length, sym, ap, ◌∙◌, arith}
use Rattle.std.proofs.lemmas.List.{length-append}
use Rattle.std.proofs.lemmas.Result.{err_from_is_err_and}
use Rattle.fixed.specs.Items.{items}
use Rattle.fixed.proofs.Counting.{joined_counting}
use Rattle.visit.specs.Crossings.{crosses, crossing_of, crossings_from, crossings_below, plan_crossings}
use Rattle.visit.proofs.Picked.{picked, picked_grows, joined_rises, adds_yes, adds_no}
use Rattle.visit.proofs.crossings.crossings_of.Goals as goal
use Rattle.visit.proofs.crossings.crossings_of.Goals.{then-crosses+in_ok-push, else-crosses}

-- the list was full, and one more crossing was found: what the list holds and what this visit has are part of all crossings
pub returns-in_err-push : goal.returns-in_err-push
returns-in_err-push c =
    let vs = c.as_slice-visits.result.now in
    let u = c.loop-u.u in
    let w = c.loop-w.w in
    let f = crossing_of vs u in
    let p = crosses vs u in
    rw (err_from_is_err_and c.from_residual.result c.from_residual.ensures.1).1
    (omega (
      arith,
      c.in_err-push.ensures.0,
      ap length c.loop-w.invariant,
      length-append (crossings_below vs u) (picked f p w),
      picked_grows f p w (length vs) c.loop-w-test.true (sym c.if-crosses.ensures),
      ap length (joined_counting (crossings_from vs) u),
      length-append (crossings_below vs u) (crossings_from vs u),
      joined_rises (crossings_from vs) (u + 1) (length vs) (omega arith),
      ap (λ l. length (plan_crossings l)) c.as_slice-visits.ensures,
    ))

pub loop-w-preserved : goal.loop-w-preserved
loop-w-preserved c =
    let vs = c.as_slice-visits.result.now in
    let u = c.loop-u.u in
    let w = c.loop-w.w in
    let before = items c.loop-w.crossings in
    let after = items c.if-crosses.crossings in
    elim c.if-crosses.branch [
      | then-crosses+in_ok-push t ↦
          adds_yes (crossing_of vs u) (crosses vs u) (crossings_below vs u) before after w c.loop-w.invariant (sym t.if-crosses.ensures)
          (rw (t.crossings-is, ← t.crossing_at.ensures) t.in_ok-push.ensures)
      | else-crosses t ↦
          adds_no (crossing_of vs u) (crosses vs u) (crossings_below vs u) before after w c.loop-w.invariant (sym t.if-crosses.ensures)
          (ap items t.crossings-is)
    ]

pub loop-u-preserved : goal.loop-u-preserved
loop-u-preserved c =
    let vs = c.as_slice-visits.result.now in
    let all : c.loop-w.w ≡ length vs = omega arith in
    let found = c.loop-w.invariant ∙ ap (λ n. crossings_below vs c.loop-u.u ++ picked (crossing_of vs c.loop-u.u) (crosses vs c.loop-u.u) n) all in
    found ∙ sym (joined_counting (crossings_from vs) c.loop-u.u)
