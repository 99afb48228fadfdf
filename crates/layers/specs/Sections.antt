-- The section layer as a drive.
use Rattle.std.specs.Prelude.{◌≡◌, ℕ, ◌+◌, List, take, drop, Ok, Err, Result}
use Rattle.fault.specs.declared.kinds.DriveFault.{DriveFault}
use Rattle.fault.specs.Renumbered.{renumbered}
use Rattle.drive.specs.declared.place.Answer.{Answer}
use Rattle.drive.specs.declared.place.Place.{Place}
use Rattle.layers.specs.declared.section.Section.{Section}

-- an answer of the drive below, with its carrier in the section's number
abbrev pub restated : {T : Type 0} → ℕ → Result T DriveFault → Result T DriveFault
restated c (Ok x) = Ok x
restated c (Err f) = Err (renumbered c f)

-- at most n, from place f on
abbrev pub part : ℕ → ℕ → List Place → List Place
part f n ps = take n (drop f ps)

module _ {D : Type 0} where
  abbrev pub section : D → ℕ → ℕ → Section D
  section d f n = record { inner = d; first = f; most = n }

  abbrev pub part_places : (D → List Place) → Section D → List Place
  part_places meaning s = part s.first s.most (meaning s.inner)

  abbrev pub part_sent : (D → ℕ → ℕ → D) → Section D → ℕ → ℕ → Section D
  part_sent sent s c t = section (sent s.inner (s.first + c) t) s.first s.most

  -- the rule below, of the carrier's number there
  abbrev pub part_reports : (D → ℕ → Answer → D → Type 0) → Section D → ℕ → Answer → Section D → Type 0
  part_reports reports s c a e = reports s.inner (s.first + c) a e.inner × (e.first ≡ s.first) × (e.most ≡ s.most)
