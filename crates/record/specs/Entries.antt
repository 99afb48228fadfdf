-- What can be wrong with the entries of a record.
use Rattle.std.specs.Prelude.{◌≡◌, ℕ, ◌+◌, ◌-◌, ◌*◌, ◌/◌, ◌%◌, ◌<◌, ◌≤◌, ◌⊎◌, List, length, ◌≢◌, slice_index_or}
use Rattle.fault.specs.declared.kinds.Flaw.{Flaw}
use Rattle.fault.specs.declared.kinds.Flaw.TheVariants.{Carrier, Cell, Neighbour}
use Rattle.fault.specs.declared.kinds.EntryFault.{EntryFault}
use Rattle.fault.specs.declared.kinds.EntryFault.TheVariants.{Record, Flawed}
use Rattle.fault.specs.declared.kinds.PlanFault.TheVariants.{Entry as entry_fault}
use Rattle.fault.specs.Reports.{number_of}
use Rattle.fault.specs.Firsts.{First}
use Rattle.record.specs.declared.entry.Entry.{Entry}
use Rattle.record.specs.Layout.{Draft, draft, RecordApplies}

abbrev pub no_entry : Entry
no_entry = record { carrier = 0; cell = 0 }

abbrev pub entry : List Entry → ℕ → Entry
entry es k = slice_index_or es k no_entry

-- the first carrier number is 0, and each later one is that of the entry before it or one more
abbrev pub FollowsOn : List Entry → ℕ → Type 0
FollowsOn es k =
    (k ≡ 0 → (entry es k).carrier ≡ 0)
    × (0 < k → ((entry es k).carrier ≡ (entry es (k - 1)).carrier) ⊎ ((entry es k).carrier ≡ (entry es (k - 1)).carrier + 1))

-- how far apart two numbers are
abbrev pub gap : ℕ → ℕ → ℕ
gap a b = (a - b) + (b - a)

-- Manhattan distance on a floor of width w, whose cell r * w + k is in row r and column k: cells at distance 1 share a side
abbrev pub distance : ℕ → ℕ → ℕ → ℕ
distance w a b = gap (a / w) (b / w) + gap (a % w) (b % w)

-- Entry k has the flaw. Carrier numbers are below the plan's carriers and the last is the highest of these; that it is too low
-- shows only past the last entry. A carrier's entries lie together, so its entry before entry k is entry k - 1.
abbrev pub HasFlaw : Draft → Flaw → ℕ → Type 0
HasFlaw d Carrier k =
    ((k < length d.entries) × ((FollowsOn d.entries k → ⊥) ⊎ (d.carriers ≤ (entry d.entries k).carrier)))
    ⊎ ((k ≡ length d.entries) × ((entry d.entries (k - 1)).carrier + 1 ≢ d.carriers))
HasFlaw d Cell k = (k < length d.entries) × (d.width * d.height ≤ (entry d.entries k).cell)
HasFlaw d Neighbour k =
    (0 < k) × (k < length d.entries) × ((entry d.entries (k - 1)).carrier ≡ (entry d.entries k).carrier)
    × (1 < distance d.width (entry d.entries (k - 1)).cell (entry d.entries k).cell)

abbrev pub entry_number : EntryFault → ℕ
entry_number f = number_of (entry_fault f)

-- a fault of the record or entry layer applies to the bytes b
abbrev pub EntryApplies : List ℕ → EntryFault → Type 0
EntryApplies b (Record f) = RecordApplies b f
EntryApplies b (Flawed flaw k) = First ◌<◌ (HasFlaw (draft b) flaw) k

-- no entry has a flaw
abbrev pub Sound : Draft → Type 0
Sound d = (flaw : Flaw) (k : ℕ) → HasFlaw d flaw k → ⊥
