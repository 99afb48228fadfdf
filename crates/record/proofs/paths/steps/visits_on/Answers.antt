use Rattle.std.proofs.Common.{rules, ◌==◌, ◌∙◌}
use Rattle.std.proofs.lemmas.List.Sorted.{answers_always}
use Rattle.record.specs.declared.entry.Entry.{Entry}
use Rattle.record.proofs.Parts.{parts, visits_are_parts}
use Rattle.record.proofs.paths.steps.visits_on.Goals as goal

pub returns : goal.returns
returns c =
    let (p, from, whole, len) = c.count.ensures.runs in
    let run = c.chunk_by.ensures.runs p p.seen from in
    let same = run.3 (λ (y z : Entry). y.cell == z.cell) (answers_always _ _ _ (λ f a r g h. search rules)) in
    len ∙ p.long ∙ visits_are_parts p.items c.args.path.now (parts p _ run.1 same.0 same.1) (run.2 whole).0
