-- What a header says.
use Rattle.std.specs.Prelude.{◌≡◌, ℕ, List}
use Rattle.fault.specs.declared.kinds.Field.TheVariants.{Width, Height, Carriers, Entries}
use Rattle.fault.specs.declared.kinds.RecordFault.{RecordFault}
use Rattle.fault.specs.declared.kinds.EntryFault.TheVariants.{Record}
use Rattle.fault.specs.declared.kinds.PlanFault.TheVariants.{Entry as entry_fault}
use Rattle.fault.specs.Reports.{number_of}
use Rattle.record.specs.declared.header.Header.{Header}
use Rattle.record.specs.declared.entry.Entry.{Entry}
use Rattle.record.specs.Layout.{Draft, header}

abbrev pub record_number : RecordFault → ℕ
record_number f = number_of (entry_fault (Record f))

pub record ReadsHeader (b : List ℕ) (h : Header) : Type 0 where
  pub width_read : h.width ≡ header b Width
  pub height_read : h.height ≡ header b Height
  pub carriers_read : h.carriers ≡ header b Carriers
  pub entries_read : h.entries ≡ header b Entries

-- what a header and a list of entries say
abbrev pub draft_of : Header → List Entry → Draft
draft_of h es = record { width = h.width; height = h.height; carriers = h.carriers; entries = es }
