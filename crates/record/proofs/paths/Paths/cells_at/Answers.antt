use Rattle.std.proofs.Common.{◌≡◌, ◌≢◌, ◌==◌, map, filter, get_or, set, replicate, refl, sym, ap, ◌∙◌, ⊎_elim, below_more, get_or-set_same, get_or-set_other, arith}
use Rattle.std.proofs.lemmas.Bool.{cases_lt}
use Rattle.std.proofs.lemmas.List.{length-set, get_or-replicate, get_or_past}
use Rattle.std.proofs.lemmas.List.FromFn.{fill_by_all}
use Rattle.record.specs.declared.entry.Entry.{Entry}
use Rattle.record.specs.Paths.{paths_draft}
use Rattle.record.specs.Steps.{at_step, cell}
use Rattle.record.proofs.Walked.{sound_from, none_beyond, cut}
use Rattle.record.proofs.paths.Paths.cells_at.Goals as goal

pub loop-carrier-init : goal.loop-carrier-init
loop-carrier-init c =
    let paths = c.args.self.now in
    record {
      room = refl;
      told = λ i h. absurd (omega arith);
      untold = λ i h. ⊎_elim (λ l. get_or-replicate 16 i 0 0 l) (λ l. get_or_past (replicate 16 0) i 0 l) (cases_lt i 16);
      from = rw c.entries-rest.ensures (sound_from (paths_draft paths) paths.sound);
      left = λ i h. rw c.entries-rest.ensures refl;
    }

pub loop-carrier-preserved : goal.loop-carrier-preserved
loop-carrier-preserved c =
    let now = c.loop-carrier.invariant in
    let at : c.from.result ≡ c.loop-carrier.carrier = c.from.ensures in
    let parts = cut c.loop-carrier.carrier c.loop-carrier.rest.now now.from in
    let own : filter (λ (e : Entry). e.carrier == c.loop-carrier.carrier) (paths_draft c.args.self.now).entries ≡ c.split_path.result.0.now =
    sym (c.split_path.ensures.own ∙ parts.own ∙ now.left c.loop-carrier.carrier (omega arith)) in
    record {
      room = length-set _ _ _ ∙ now.room;
      told =
          below_more _ _
          (λ i h. let ne : i ≢ c.from.result = omega arith in rw get_or-set_other (now.told i h))
          (ap (λ k. get_or (set c.loop-carrier.cells c.from.result c.cell_on.result) k 0) (sym at)
          ∙ get_or-set_same c.loop-carrier.cells c.from.result c.cell_on.result 0 (omega (arith, now.room, c.args.self.now.header.manned))
          ∙ c.cell_on.ensures ∙ ap (λ es. at_step (map (λ (e : Entry). e.cell) es) c.args.step) (sym own));
      untold = λ i h. let ne : i ≢ c.from.result = omega arith in rw get_or-set_other (now.untold i (omega arith));
      from = rw c.split_path.ensures.after parts.later;
      left = λ i h. rw c.split_path.ensures.after (parts.others i (omega arith) ∙ now.left i (omega arith));
    }

pub returns : goal.returns
returns c =
    let paths = c.args.self.now in
    let now = c.loop-carrier.invariant in
    fill_by_all (λ i. cell (paths_draft paths) i c.args.step) c.loop-carrier.cells 16 0 now.room
    (λ i h.
    ⊎_elim (λ l. now.told i l)
    (λ l. now.untold i l ∙ sym (ap (λ es. at_step (map (λ (e : Entry). e.cell) es) c.args.step) (none_beyond (paths_draft paths) paths.sound i (omega arith))))
    (cases_lt i c.loop-carrier.carrier))
