-- Two carriers in conflict, and what is wrong with a plan.
use Rattle.std.specs.Prelude.{◌≡◌, ℕ, ◌-◌, ◌<◌, ◌≤◌, List, ◌≢◌}
use Rattle.fault.specs.declared.kinds.Conflict.{Conflict}
use Rattle.fault.specs.declared.kinds.Conflict.TheVariants.{Clash, Following}
use Rattle.fault.specs.declared.kinds.Meeting.{Meeting}
use Rattle.fault.specs.declared.kinds.PlanFault.{PlanFault}
use Rattle.fault.specs.declared.kinds.PlanFault.TheVariants.{Entry, Conflict as Conflicting}
use Rattle.fault.specs.Firsts.{First, Sooner}
use Rattle.record.specs.Layout.{Draft, draft}
use Rattle.record.specs.Entries.{EntryApplies}
use Rattle.record.specs.Steps.{cell}

-- A clash is two carriers in one cell at one step. A following conflict is a carrier in a cell at a step from 1 on in which
-- another carrier was at the step before, and it was not.
abbrev pub InConflict : Draft → Conflict → Meeting → Type 0
InConflict d Clash m =
    (m.first < m.second) × (m.second < d.carriers)
    × (cell d m.first m.step ≡ cell d m.second m.step)
InConflict d Following m =
    (1 ≤ m.step) × (m.first < d.carriers) × (m.second < d.carriers) × (m.first ≢ m.second)
    × (cell d m.first m.step ≡ cell d m.second (m.step - 1))
    × (cell d m.first m.step ≢ cell d m.first (m.step - 1))

-- no two carriers are ever in conflict
abbrev pub ConflictFree : Draft → Type 0
ConflictFree d = (kind : Conflict) (m : Meeting) → InConflict d kind m → ⊥

-- a fault applies to the bytes b
abbrev pub Applies : List ℕ → PlanFault → Type 0
Applies b (Entry f) = EntryApplies b f
Applies b (Conflicting kind m) = First Sooner (InConflict (draft b) kind) m
