use Rattle.std.proofs.Common.{◌≡◌, ℕ, ◌-◌, ◌<◌, map, None}
use Rattle.std.specs.List.{range_with_len}
use Rattle.record.specs.Paths.{paths_draft}
use Rattle.record.specs.Steps.{cell}
use Rattle.plan.specs.Searches.{FirstAt}
use Rattle.plan.proofs.conflicts.soonest.Given as goal

abbrev pub invariant-loop-step : goal.invariant-loop-step
invariant-loop-step l =
    record {
      none : (k : ℕ) → k < l.step → FirstAt (paths_draft l.paths) l.kind k None;
      was : l.earlier ≡ map (λ i. cell (paths_draft l.paths) i (l.step - 1)) (range_with_len 0 16);
    }
