-- What the caller of a sum hands over.
use Rattle.std.specs.Prelude.{ℕ, false, List, slice_index_or}
use Rattle.walk.specs.declared.crossing.Ways.{Ways}

-- which edges of each crossing a list takes
abbrev pub ways_in : List Ways → ℕ → Ways
ways_in ws k = slice_index_or ws k (record { plan = false; reversed = false })

-- the starting value that a list names for each visit, zero where it names none
abbrev pub starts_in : {K : Type 0} → K → List K → ℕ → K
starts_in zero start v = slice_index_or start v zero
