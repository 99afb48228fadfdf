use Rattle.std.proofs.Common.{◌+◌, ◌*◌, sym, ap, ◌∙◌}
use Rattle.std.proofs.lemmas.Result.{err_from_is_err_and}
use Rattle.fault.specs.declared.kinds.RecordFault.TheVariants.{Length}
use Rattle.record.proofs.Layers.{same_unless, drafts_same, counted_as_read, validated_first}
use Rattle.record.proofs.paths.reads.PathsTryFromRefSliceU8.try_from.Goals as goal

pub load-requires-clause-whole : goal.load-requires-clause-whole
load-requires-clause-whole c =
    let (read, sound) = c.in_ok-header.ensures in
    same_unless _ _ (sound Length) ∙ ap (λ n. 8 + 3 * n) (sym read.entries_read)

pub invariant_of-listing : goal.invariant_of-listing
invariant_of-listing c =
    let (read, sound) = c.in_ok-header.ensures in
    record { counted = counted_as_read _ _ _ read (c.as_slice.ensures ∙ c.load.ensures) }

pub returns-in_err-validate : goal.returns-in_err-validate
returns-in_err-validate c =
    let p = err_from_is_err_and c.from_residual-in_err-validate.result c.from_residual-in_err-validate.ensures.1 in
    let (read, sound) = c.in_ok-header.ensures in
    rw (p.1, p.2) (validated_first _ sound _ _ (drafts_same _ _ _ read (c.as_slice.ensures ∙ c.load.ensures)) c.in_err-validate.ensures)
