-- How long paths are.
use Rattle.std.proofs.Common.{ℕ, ◌≤◌, eqb, List, length}
use Rattle.std.proofs.lemmas.List.{length-map}
use Rattle.std.proofs.lemmas.List.Sums.{length-filter, count_by-le-length}
use Rattle.record.specs.declared.entry.Entry.{Entry}
use Rattle.record.specs.Steps.{path}

pub path_le : (es : List Entry) (i : ℕ) → length (path es i) ≤ length es
path_le es i =
    let own : Entry → _ = λ e. eqb e.carrier i in
    simp (length-map, length-filter) (count_by-le-length own es)
