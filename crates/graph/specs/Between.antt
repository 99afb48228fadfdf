-- Crossings between visits.
use Rattle.std.specs.Prelude.{ℕ, ◌+◌, ◌<◌, List, length}
use Rattle.walk.specs.declared.crossing.Crossing.{Crossing}
use Rattle.walk.specs.Edges.{crossing}

-- crossings between n visits, with a visit after each first one
abbrev pub Between : ℕ → List Crossing → Type 0
Between n cs = (k : ℕ) → k < length cs → ((crossing cs k).first + 1 < n) × ((crossing cs k).second < n)
