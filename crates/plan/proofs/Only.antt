-- A record has one verdict.
use Rattle.std.proofs.Common.{◌≡◌, ℕ, zero, suc, ◌-◌, ◌<◌, List, Ok, Err, Result, sym, refl, ap, ◌∙◌, subst, ⊎_elim, arith}
use Rattle.std.proofs.lemmas.Bool.{cases_order}
use Rattle.fault.specs.declared.kinds.Flaw.{Flaw}
use Rattle.fault.specs.declared.kinds.Flaw.TheVariants.{Carrier, Cell, Neighbour}
use Rattle.fault.specs.declared.kinds.Conflict.{Conflict}
use Rattle.fault.specs.declared.kinds.Conflict.TheVariants.{Clash, Following}
use Rattle.fault.specs.declared.kinds.Meeting.{Meeting}
use Rattle.fault.specs.declared.kinds.RecordFault.{RecordFault}
use Rattle.fault.specs.declared.kinds.RecordFault.TheVariants.{Short, Header, Length}
use Rattle.fault.specs.declared.kinds.EntryFault.{EntryFault}
use Rattle.fault.specs.declared.kinds.EntryFault.TheVariants.{Record, Flawed}
use Rattle.fault.specs.declared.kinds.PlanFault.{PlanFault}
use Rattle.fault.specs.declared.kinds.PlanFault.TheVariants.{Entry, Conflict as Conflicting}
use Rattle.fault.specs.Reports.{number_of}
use Rattle.fault.specs.Firsts.{First, Sooner}
use Rattle.fault.proofs.Unique.{first_is_one, fields_total, meetings_total}
use Rattle.record.specs.Layout.{Draft, draft, RecordApplies}
use Rattle.record.specs.Headers.{record_number}
use Rattle.record.specs.Entries.{HasFlaw, entry_number, EntryApplies}
use Rattle.plan.specs.Conflicts.{InConflict, Applies}
use Rattle.plan.specs.Plans.{Judged}

-- what the numbers tell apart
flaw_at : ℕ → Flaw
flaw_at zero = Carrier
flaw_at (suc zero) = Cell
flaw_at (suc (suc n)) = Neighbour

flaw_found : (flaw : Flaw) (k : ℕ) → flaw_at (entry_number (Flawed flaw k) - 4) ≡ flaw
unfolding flaw_at
flaw_found Carrier k = refl
flaw_found Cell k = refl
flaw_found Neighbour k = refl

kind_at : ℕ → Conflict
kind_at zero = Clash
kind_at (suc n) = Following

kind_found : (kind : Conflict) (m : Meeting) → kind_at (number_of (Conflicting kind m) - 7) ≡ kind
unfolding kind_at
kind_found Clash m = refl
kind_found Following m = refl

record_low : (f : RecordFault) → record_number f < 4
record_low Short = omega arith
record_low (Header f) = omega arith
record_low Length = omega arith

flaw_between : (flaw : Flaw) (k : ℕ) → (3 < entry_number (Flawed flaw k)) × (entry_number (Flawed flaw k) < 7)
flaw_between Carrier k = (omega arith, omega arith)
flaw_between Cell k = (omega arith, omega arith)
flaw_between Neighbour k = (omega arith, omega arith)

entry_low : (f : EntryFault) → entry_number f < 7
entry_low (Record f) = omega (arith, record_low f)
entry_low (Flawed flaw k) = (flaw_between flaw k).1

kind_high : (kind : Conflict) (m : Meeting) → 6 < number_of (Conflicting kind m)
kind_high Clash m = omega arith
kind_high Following m = omega arith

-- of one number, one fault applies
module _ (b : List ℕ) where
  same_record : (f g : RecordFault) → record_number f ≡ record_number g → RecordApplies b f → RecordApplies b g → f ≡ g
  same_record Short Short e p q = refl
  same_record Short (Header g) e p q = absurd (omega arith)
  same_record Short Length e p q = absurd (omega arith)
  same_record (Header f) Short e p q = absurd (omega arith)
  same_record (Header f) (Header g) e p q = ap Header (first_is_one _ fields_total _ f g p q)
  same_record (Header f) Length e p q = absurd (omega arith)
  same_record Length Short e p q = absurd (omega arith)
  same_record Length (Header g) e p q = absurd (omega arith)
  same_record Length Length e p q = refl

  same_entry : (f g : EntryFault) → entry_number f ≡ entry_number g → EntryApplies b f → EntryApplies b g → f ≡ g
  same_entry (Record f) (Record g) e p q = ap Record (same_record f g e p q)
  same_entry (Record f) (Flawed c j) e p q = absurd (omega (arith, record_low f, flaw_between c j))
  same_entry (Flawed a k) (Record g) e p q = absurd (omega (arith, record_low g, flaw_between a k))
  same_entry (Flawed a k) (Flawed c j) e p q =
      let s : c ≡ a = sym (flaw_found c j) ∙ ap (λ n. flaw_at (n - 4)) (sym e) ∙ flaw_found a k in
      let t : k ≡ j = first_is_one ◌<◌ cases_order _ k j p (subst (λ x. First ◌<◌ (HasFlaw (draft b) x) j) s q) in
      λ i. Flawed (sym s i) (t i)

  same_fault : (f g : PlanFault) → number_of f ≡ number_of g → Applies b f → Applies b g → f ≡ g
  same_fault (Entry f) (Entry g) e p q = ap Entry (same_entry f g e p q)
  same_fault (Entry f) (Conflicting c n) e p q = absurd (omega (arith, entry_low f, kind_high c n))
  same_fault (Conflicting a m) (Entry g) e p q = absurd (omega (arith, entry_low g, kind_high a m))
  same_fault (Conflicting a m) (Conflicting c n) e p q =
      let s : c ≡ a = sym (kind_found c n) ∙ ap (λ x. kind_at (x - 7)) (sym e) ∙ kind_found a m in
      let t : m ≡ n = first_is_one Sooner meetings_total _ m n p (subst (λ x. First Sooner (InConflict (draft b) x) n) s q) in
      λ i. Conflicting (sym s i) (t i)

  pub only : (v w : Result Draft PlanFault) → Judged b v → Judged b w → w ≡ v
  only (Ok d) (Ok e) x y = ap Ok (y.0 ∙ sym x.0)
  only (Ok d) (Err g) x y = absurd (x.1 g y.0)
  only (Err f) (Ok e) x y = absurd (y.1 f x.0)
  only (Err f) (Err g) x y =
      ⊎_elim (λ e. ap Err (same_fault g f e y.0 x.0)) (⊎_elim (λ l. absurd (x.1 g l y.0)) (λ l. absurd (y.1 f l x.0)))
      (cases_order (number_of g) (number_of f))
