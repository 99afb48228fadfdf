-- What reading a record answers.
use Rattle.std.specs.Prelude.{◌≡◌, ℕ, List, Ok, Err, Result, MatchResult}
use Rattle.fault.specs.declared.kinds.Conflict.{Conflict}
use Rattle.fault.specs.declared.kinds.Conflict.TheVariants.{Clash, Following}
use Rattle.fault.specs.declared.kinds.Meeting.{Meeting}
use Rattle.fault.specs.declared.kinds.PlanFault.{PlanFault}
use Rattle.fault.specs.declared.kinds.PlanFault.TheVariants.{Entry, Conflict as Conflicting}
use Rattle.fault.specs.Reports.{number_of}
use Rattle.fault.specs.Firsts.{First, Sooner, Verdict}
use Rattle.record.specs.Layout.{Draft, draft}
use Rattle.record.specs.declared.paths.Paths.{Paths}
use Rattle.record.specs.Paths.{paths_draft}
use Rattle.plan.specs.declared.accepted.Plan.{Plan}
use Rattle.plan.specs.Conflicts.{InConflict, Applies}

-- what a plan says
abbrev pub plan_draft : Plan → Draft
plan_draft p = paths_draft p.paths

-- paths without a conflict of the kind pass, and others are refused for their soonest
abbrev pub Refuses : Paths → Conflict → Result Unit PlanFault → Type 0
Refuses paths kind r =
    MatchResult r (λ u. (m : Meeting) → InConflict (paths_draft paths) kind m → ⊥)
    (λ f. (m : Meeting) × (f ≡ Conflicting kind m) × First Sooner (InConflict (paths_draft paths) kind) m)

-- paths give their plan, or their soonest conflict of the kind that comes first
abbrev pub Accepted : Paths → Result Plan PlanFault → Type 0
Accepted paths (Ok p) = p.paths ≡ paths
Accepted paths (Err (Entry f)) = ⊥
Accepted paths (Err (Conflicting Clash m)) = First Sooner (InConflict (paths_draft paths) Clash) m
Accepted paths (Err (Conflicting Following m)) =
    First Sooner (InConflict (paths_draft paths) Following) m × ((n : Meeting) → InConflict (paths_draft paths) Clash n → ⊥)

-- what an answer tells: what the plan says, or a fault
abbrev pub told : Result Plan PlanFault → Result Draft PlanFault
told (Ok p) = Ok (plan_draft p)
told (Err f) = Err f

-- The verdict on a record's bytes b: what they say, and then no fault applies to them; or the first fault that does, by number.
abbrev pub Judged : List ℕ → Result Draft PlanFault → Type 0
Judged b v = Verdict number_of (Applies b) (λ d. d ≡ draft b) v

-- b has no verdict but v
abbrev pub Only : List ℕ → Result Draft PlanFault → Type 0
Only b v = (w : Result Draft PlanFault) → Judged b w → w ≡ v

-- v is the one verdict on a record's bytes b
pub record IsVerdict (b : List ℕ) (v : Result Draft PlanFault) : Type 0 where
  pub judged : Judged b v
  pub only : Only b v
