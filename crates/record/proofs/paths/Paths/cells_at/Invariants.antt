use Rattle.std.proofs.Common.{◌≡◌, ◌==◌, ◌≤◌, filter, length, ℕ, ◌<◌, get_or}
use Rattle.record.specs.Paths.{paths_draft}
use Rattle.record.specs.Steps.{cell}
use Rattle.record.proofs.Walked.{From}
use Rattle.record.proofs.paths.Paths.cells_at.Given as goal

abbrev pub invariant-loop-carrier : goal.invariant-loop-carrier
invariant-loop-carrier l =
    record {
      room : length l.cells ≡ 16;
      told : (i : ℕ) → i < l.carrier → get_or l.cells i 0 ≡ cell (paths_draft l.self) i l.step;
      untold : (i : ℕ) → l.carrier ≤ i → get_or l.cells i 0 ≡ 0;
      from : From l.carrier l.rest;
      left : (i : ℕ) → l.carrier ≤ i → filter (λ e. e.carrier == i) l.rest ≡ filter (λ e. e.carrier == i) (paths_draft l.self).entries;
    }
