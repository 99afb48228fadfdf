-- What the search for a conflict answers, from the carriers' cells at a step and the step before.
use Rattle.std.specs.Prelude.{◌≡◌, ℕ, ◌-◌, ◌<◌, map, Some, None, Option, MatchOption, ◌≢◌, slice_index}
use Rattle.std.specs.List.{range_with_len}
use Rattle.fault.specs.declared.kinds.Conflict.{Conflict}
use Rattle.fault.specs.declared.kinds.Conflict.TheVariants.{Clash, Following}
use Rattle.fault.specs.declared.kinds.Meeting.{Meeting}
use Rattle.fault.specs.Firsts.{First, Sooner}
use Rattle.record.specs.Layout.{Draft}
use Rattle.record.specs.Steps.{cell}
use Rattle.plan.specs.declared.moment.Moment.{Moment}
use Rattle.plan.specs.Conflicts.{InConflict}

-- m has the cells of the plan's carriers at step t, and at the step before it
pub record IsMoment (d : Draft) (t : ℕ) (m : Moment) : Type 0 where
  pub all : m.carriers ≡ d.carriers
  pub was : m.earlier ≡ map (λ i. cell d i (t - 1)) (range_with_len 0 16)
  pub is : m.later ≡ map (λ i. cell d i t) (range_with_len 0 16)

-- carriers i and j are in conflict at the moment
abbrev pub Meets : Conflict → Moment → ℕ → ℕ → Type 0
Meets Clash m i j = (i < j) × (slice_index m.later i ≡ slice_index m.later j)
Meets Following m i j =
    (i ≢ j) × (slice_index m.later i ≡ slice_index m.earlier j) × (slice_index m.later i ≢ slice_index m.earlier i)

-- the lowest number below n with P, if there is one
abbrev pub Lowest : ℕ → (ℕ → Type 0) → Option ℕ → Type 0
Lowest n P r = MatchOption r ((k : ℕ) → k < n → P k → ⊥) (λ k. (k < n) × First ◌<◌ P k)

-- the lowest pair, by the first and then by the second
abbrev pub LowestPair : ℕ → (ℕ → ℕ → Type 0) → Option (ℕ × ℕ) → Type 0
LowestPair n P r =
    MatchOption r ((i j : ℕ) → i < n → j < n → P i j → ⊥)
    (λ (i, j). (i < n) × (j < n) × First ◌<◌ (P i) j × ((a b : ℕ) → a < i → b < n → P a b → ⊥))

-- the conflict at step t that comes first, if there is one
abbrev pub FirstAt : Draft → Conflict → ℕ → Option Meeting → Type 0
FirstAt d kind t None = (m : Meeting) → m.step ≡ t → InConflict d kind m → ⊥
FirstAt d kind t (Some m) =
    (m.step ≡ t) × InConflict d kind m × ((n : Meeting) → n.step ≡ t → Sooner n m → InConflict d kind n → ⊥)

-- the soonest conflict, at any step
abbrev pub Soonest : Draft → Conflict → Option Meeting → Type 0
Soonest d kind None = (m : Meeting) → InConflict d kind m → ⊥
Soonest d kind (Some m) = First Sooner (InConflict d kind) m
