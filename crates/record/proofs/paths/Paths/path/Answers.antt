use Rattle.std.proofs.Common.{◌==◌, nat_lt, filter, rules, ap, ◌∙◌}
use Rattle.std.proofs.lemmas.List.{take_rest}
use Rattle.std.proofs.lemmas.List.Sorted.{IsPartitionPoint-from_clause}
use Rattle.std.specs.List.Sorted.{IsNonDecreasingBy}
use Rattle.record.specs.declared.entry.Entry.{Entry}
use Rattle.record.specs.Paths.{paths_draft}
use Rattle.record.proofs.Together.{rising, below_parted, own_parted, together}
use Rattle.record.proofs.paths.Paths.path.Goals as goal

pub returns-clause-own : goal.returns-clause-own
returns-clause-own c =
    let es = c.entries-entries.result.now in
    let rises : IsNonDecreasingBy (λ (e : Entry). e.carrier) es = rw c.entries-entries.ensures (rising (paths_draft c.args.self.now) c.args.self.now.sound) in
    let most = c.partition_point.ensures.bound in
    let starts =
    IsPartitionPoint-from_clause (λ (e : Entry). nat_lt e.carrier c.args.carrier) es _ c.partition_point.ensures.partitioned (below_parted es _ rises)
    (λ a r f' k. search rules) in
    let is = take_rest es c.partition_point.result in
    let ends =
    IsPartitionPoint-from_clause (λ (e : Entry). e.carrier == c.args.carrier) _ _ c.partition_point-2.ensures.partitioned (own_parted es _ rises _ most starts _ is)
    (λ a r f' k. search rules) in
    together es _ rises _ most starts _ is _ c.partition_point-2.ensures.bound ends ∙ ap (filter (λ (e : Entry). e.carrier == c.args.carrier)) c.entries-entries.ensures
