-- What the searches for flaws answer.
use Rattle.std.specs.Prelude.{◌≡◌, ℕ, ◌<◌, ◌≤◌, length, Ok, Err, Result, Some, None, Option, MatchOption}
use Rattle.fault.specs.declared.kinds.Flaw.{Flaw}
use Rattle.fault.specs.declared.kinds.EntryFault.{EntryFault}
use Rattle.fault.specs.declared.kinds.EntryFault.TheVariants.{Flawed}
use Rattle.fault.specs.Firsts.{First}
use Rattle.record.specs.declared.listing.Listing.{Listing}
use Rattle.record.specs.Layout.{Draft}
use Rattle.record.specs.Headers.{draft_of}
use Rattle.record.specs.Entries.{HasFlaw, entry_number, Sound}

-- what a listing says
abbrev pub listed : Listing → Draft
listed l = draft_of l.header l.entries.now

-- where the search for one flaw finds it: nowhere, or at the first entry that has it
abbrev pub Found : Draft → Flaw → Option ℕ → Type 0
Found d flaw at =
    MatchOption at ((k : ℕ) → k ≤ length d.entries → HasFlaw d flaw k → ⊥)
    (λ k. (k ≤ length d.entries) × First ◌<◌ (HasFlaw d flaw) k)

-- what is answered where the search for one flaw found it
abbrev pub refusal : Flaw → Option ℕ → Result Unit EntryFault
refusal flaw None = Ok tt
refusal flaw (Some k) = Err (Flawed flaw k)

-- what the search for all of them answers: nothing is wrong, or the first entry with the flaw that comes first
abbrev pub flaw_number : Flaw → ℕ
flaw_number flaw = entry_number (Flawed flaw 0)

abbrev pub Validated : Draft → Result Unit EntryFault → Type 0
Validated d (Ok u) = Sound d
Validated d (Err f) =
    (flaw : Flaw) × (k : ℕ) × (f ≡ Flawed flaw k) × First ◌<◌ (HasFlaw d flaw) k
    × ((g : Flaw) (j : ℕ) → flaw_number g < flaw_number flaw → HasFlaw d g j → ⊥)
