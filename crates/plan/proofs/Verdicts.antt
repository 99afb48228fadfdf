-- From the verdict on paths to the verdict on the record.
use Rattle.std.proofs.Common.{◌≡◌, ℕ, ◌<◌, List, Ok, Err, Result, sym, ap, ◌∙◌, subst, arith}
use Rattle.fault.specs.declared.kinds.Conflict.{Conflict}
use Rattle.fault.specs.declared.kinds.Conflict.TheVariants.{Clash, Following}
use Rattle.fault.specs.declared.kinds.Meeting.{Meeting}
use Rattle.fault.specs.declared.kinds.EntryFault.{EntryFault}
use Rattle.fault.specs.declared.kinds.PlanFault.{PlanFault}
use Rattle.fault.specs.declared.kinds.PlanFault.TheVariants.{Entry, Conflict as Conflicting}
use Rattle.fault.specs.Reports.{number_of}
use Rattle.fault.specs.Firsts.{First, Sooner}
use Rattle.record.specs.declared.paths.Paths.{Paths}
use Rattle.record.specs.Layout.{Draft, draft}
use Rattle.record.specs.Entries.{EntryApplies}
use Rattle.record.specs.Paths.{paths_draft}
use Rattle.plan.specs.declared.accepted.Plan.{Plan}
use Rattle.plan.specs.Conflicts.{InConflict, Applies}
use Rattle.plan.specs.Plans.{Accepted, told, Judged}

module _ (b : List ℕ) (paths : Paths) (same : paths_draft paths ≡ draft b) (sound : (f : EntryFault) → EntryApplies b f → ⊥) where
  first_of : (kind : Conflict) (m : Meeting) → First Sooner (InConflict (paths_draft paths) kind) m → First Sooner (InConflict (draft b) kind) m
  first_of kind m p = let P : Draft → Type 0 = λ d. First Sooner (InConflict d kind) m in subst P same p

  pub accepted_judged : (r : Result Plan PlanFault) → Accepted paths r → Judged b (told r)
  accepted_judged (Ok p) a = (ap paths_draft a ∙ same, none)
    where
      none : (f : PlanFault) → Applies b f → ⊥
      none (Entry f) x = sound f x
      none (Conflicting kind m) x = p.clear kind m (subst (λ d. InConflict d kind m) (sym (ap paths_draft a ∙ same)) x.0)
  accepted_judged (Err (Entry f)) a = absurd a
  accepted_judged (Err (Conflicting Clash m)) a = (first_of Clash m a, before)
    where
      before : (f : PlanFault) → number_of f < 7 → Applies b f → ⊥
      before (Entry f) l x = sound f x
      before (Conflicting Clash n) l x = omega arith
      before (Conflicting Following n) l x = omega arith
  accepted_judged (Err (Conflicting Following m)) (a, apart) = (first_of Following m a, before)
    where
      before : (f : PlanFault) → number_of f < 8 → Applies b f → ⊥
      before (Entry f) l x = sound f x
      before (Conflicting Clash n) l x = apart n (subst (λ d. InConflict d Clash n) (sym same) x.0)
      before (Conflicting Following n) l x = omega arith
