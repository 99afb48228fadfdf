-- How the first fault of one layer is the first of the layers together.
use Rattle.std.proofs.Common.{◌≡◌, ℕ, ◌<◌, ◌≤◌, List, length, Ok, Err, Result, Some, None, Option, sym, refl, ap, ◌∙◌, subst, ⊎_elim, arith}
use Rattle.std.specs.List.{range_with_len}
use Rattle.std.proofs.lemmas.List.{length-map}
use Rattle.std.proofs.lemmas.List.FromFn.{length-range_with_len}
use Rattle.std.proofs.lemmas.Bool.{cases_eq}
use Rattle.fault.specs.declared.kinds.Field.TheVariants.{Entries}
use Rattle.fault.specs.declared.kinds.RecordFault.{RecordFault}
use Rattle.fault.specs.declared.kinds.Flaw.{Flaw}
use Rattle.fault.specs.declared.kinds.Flaw.TheVariants.{Carrier, Cell, Neighbour}
use Rattle.fault.specs.declared.kinds.EntryFault.{EntryFault}
use Rattle.fault.specs.declared.kinds.EntryFault.TheVariants.{Record, Flawed}
use Rattle.fault.specs.Firsts.{First, By}
use Rattle.record.specs.declared.entry.Entry.{Entry}
use Rattle.record.specs.declared.header.Header.{Header}
use Rattle.record.specs.Layout.{Draft, draft, header, entry_at, RecordApplies}
use Rattle.record.specs.Headers.{ReadsHeader, draft_of}
use Rattle.record.specs.Entries.{HasFlaw, entry_number, EntryApplies, Sound}
use Rattle.record.specs.Searches.{Found, refusal, Validated, flaw_number}

pub same_unless : (a b : ℕ) → ((a ≡ b → ⊥) → ⊥) → a ≡ b
same_unless a b h = ⊎_elim (λ e. e) (λ n. absurd (h n)) (cases_eq a b)

pub drafts_same : (b : List ℕ) (h : Header) (es : List Entry) → ReadsHeader b h → es ≡ (draft b).entries → draft_of h es ≡ draft b
drafts_same b h es r e = λ i. record { width = r.width_read i; height = r.height_read i; carriers = r.carriers_read i; entries = e i }

-- as many entries as the header says
pub counted_as_read : (b : List ℕ) (h : Header) (es : List Entry) → ReadsHeader b h → es ≡ (draft b).entries → length es ≡ h.entries
counted_as_read b h es r e =
    ap length e ∙ length-map (range_with_len 0 (header b Entries)) (entry_at b) ∙ length-range_with_len 0 (header b Entries) ∙ sym r.entries_read

-- no entry has the flaw, or the first that does is refused
abbrev pub Searched : Draft → Flaw → Result Unit EntryFault → Type 0
Searched d flaw (Ok u) = (k : ℕ) → HasFlaw d flaw k → ⊥
Searched d flaw (Err f) = (k : ℕ) × (f ≡ Flawed flaw k) × First ◌<◌ (HasFlaw d flaw) k

flawed_within : (d : Draft) (flaw : Flaw) (k : ℕ) → HasFlaw d flaw k → k ≤ length d.entries
flawed_within d Carrier k h = ⊎_elim (λ l. omega arith) (λ e. omega arith) h
flawed_within d Cell k h = omega arith
flawed_within d Neighbour k h = omega arith

pub searched : (d : Draft) (flaw : Flaw) (at : Option ℕ) (r : Result Unit EntryFault) → Found d flaw at → r ≡ refusal flaw at → Searched d flaw r
searched d flaw None (Ok u) none e = λ k h. none k (flawed_within d flaw k h) h
searched d flaw None (Err f) none e = absurd cc
searched d flaw (Some k) (Ok u) found e = absurd cc
searched d flaw (Some k) (Err f) found e = (k, cc, found.1)

-- the flaws in their order
module _ (d : Draft) where
  pub before_cell : ((k : ℕ) → HasFlaw d Carrier k → ⊥) → (g : Flaw) (j : ℕ) → flaw_number g < 5 → HasFlaw d g j → ⊥
  before_cell numbered Carrier j l a = numbered j a
  before_cell numbered Cell j l a = omega arith
  before_cell numbered Neighbour j l a = omega arith

  pub last_validated : (r : Result Unit EntryFault) → ((k : ℕ) → HasFlaw d Carrier k → ⊥) → ((k : ℕ) → HasFlaw d Cell k → ⊥)
      → Searched d Neighbour r → Validated d r
  last_validated (Ok u) numbered placed near = sound
    where
      sound : Sound d
      sound Carrier = numbered
      sound Cell = placed
      sound Neighbour = near
  last_validated (Err f) numbered placed (k, e, first) = (Neighbour, k, e, first, before)
    where
      before : (g : Flaw) (j : ℕ) → flaw_number g < 6 → HasFlaw d g j → ⊥
      before Carrier j l a = numbered j a
      before Cell j l a = placed j a
      before Neighbour j l a = omega arith

flaw_is : (flaw : Flaw) (k : ℕ) → entry_number (Flawed flaw k) ≡ flaw_number flaw
flaw_is Carrier k = refl
flaw_is Cell k = refl
flaw_is Neighbour k = refl

module _ (b : List ℕ) (bytes_sound : (f : RecordFault) → RecordApplies b f → ⊥) where
  first_of_flaws : (f : EntryFault) → Validated (draft b) (Err f) → First (By entry_number) (EntryApplies b) f
  first_of_flaws f (flaw, k, e, first, lower) = rw e (first, before)
    where
      before : (g : EntryFault) → entry_number g < entry_number (Flawed flaw k) → EntryApplies b g → ⊥
      before (Record g) l a = bytes_sound g a
      before (Flawed g j) l a = lower g j (omega (arith, flaw_is g j, flaw_is flaw k)) a.0

  pub validated_first : (d : Draft) (f : EntryFault) → d ≡ draft b → Validated d (Err f) → First (By entry_number) (EntryApplies b) f
  validated_first d f e s = first_of_flaws f (let P : Draft → Type 0 = λ x. Validated x (Err f) in subst P e s)
