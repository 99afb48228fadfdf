-- The bytes of a plan record, what they say, and what can be wrong with them as bytes.
use Rattle.std.specs.Prelude.{◌≡◌, ℕ, ◌+◌, ◌*◌, ◌<◌, ◌≤◌, List, map, length, take, drop, slice_index}
use Rattle.std.specs.List.{range_with_len}
use Rattle.fault.specs.declared.kinds.Field.{Field}
use Rattle.fault.specs.declared.kinds.Field.TheVariants.{Width, Height, Carriers, Entries}
use Rattle.fault.specs.declared.kinds.RecordFault.{RecordFault}
use Rattle.fault.specs.declared.kinds.RecordFault.TheVariants.{Short, Header, Length}
use Rattle.fault.specs.Reports.{place_of}
use Rattle.fault.specs.Firsts.{First, By}
use Rattle.record.specs.declared.entry.Entry.{Entry}

-- What a record says, right or wrong. A byte that it lacks counts as 0: then fault 1 or 3 applies, and comes before whatever
-- that 0 brings about.
pub record Draft : Type 0 where
  pub width : ℕ
  pub height : ℕ
  pub carriers : ℕ
  pub entries : List Entry

-- the number in two bytes, the low one first
abbrev pub word : List ℕ → ℕ → ℕ
word b at = slice_index b at + 256 * slice_index b (at + 1)

-- the header is four such numbers, one for each field
abbrev pub header : List ℕ → Field → ℕ
header b f = word b (2 * place_of f)

-- after the header come the carrier numbers of all entries, a byte each, and then their cells, two bytes each
abbrev pub entry_at : List ℕ → ℕ → Entry
entry_at b k = record { carrier = slice_index b (8 + k); cell = word b (8 + header b Entries + 2 * k) }

abbrev pub draft : List ℕ → Draft
draft b =
    record {
      width = header b Width;
      height = header b Height;
      carriers = header b Carriers;
      entries = map (entry_at b) (range_with_len 0 (header b Entries));
    }

-- how long the header says that the record is
abbrev pub stated_length : List ℕ → ℕ
stated_length b = 8 + 3 * header b Entries

-- the record at the front of b, and what follows it
abbrev pub front : List ℕ → List ℕ
front b = take (stated_length b) b

abbrev pub rest : List ℕ → List ℕ
rest b = drop (stated_length b) b

abbrev pub InRange : List ℕ → Field → Type 0
InRange b Width = (1 ≤ header b Width) × (header b Width ≤ 64)
InRange b Height = (1 ≤ header b Height) × (header b Height ≤ 64)
InRange b Carriers = (1 ≤ header b Carriers) × (header b Carriers ≤ 16)
InRange b Entries = (header b Carriers ≤ header b Entries) × (header b Entries ≤ 512)

-- a fault of the record layer applies to the bytes b
abbrev pub RecordApplies : List ℕ → RecordFault → Type 0
RecordApplies b Short = length b < 8
RecordApplies b (Header f) = First (By place_of) (λ g. InRange b g → ⊥) f
RecordApplies b Length = length b ≡ stated_length b → ⊥
