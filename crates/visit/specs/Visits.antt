-- The visits of a plan.
use Rattle.std.specs.Prelude.{◌≡◌, ℕ, ◌+◌, ◌-◌, ◌<◌, false, List, map, length, filter, slice_index}
use Rattle.std.specs.List.{range_with_len, flat_map}
use Rattle.record.specs.declared.entry.Entry.{Entry}
use Rattle.record.specs.Layout.{Draft}
use Rattle.record.specs.Steps.{path, visit_at}
use Rattle.walk.specs.declared.visit.Visit.{Visit}
use Rattle.walk.specs.Edges.{visit, has_next}

-- what carrier i's entry at step t is as a visit, on its path r
abbrev pub visit_of : ℕ → List ℕ → ℕ → Visit
visit_of i r t = record { carrier = i; cell = slice_index r t; step = t }

-- carrier i's visits, by step
abbrev pub carrier_visits : List Entry → ℕ → List Visit
carrier_visits es i = map (visit_of i (path es i)) (filter (visit_at (path es i)) (range_with_len 0 (length (path es i))))

-- the visits of the first n carriers, by carrier and then by step
abbrev pub first_visits : List Entry → ℕ → List Visit
first_visits es n = flat_map (carrier_visits es) (range_with_len 0 n)

-- all visits of a plan; a visit's number is its place here
abbrev pub plan_visits : Draft → List Visit
plan_visits d = first_visits d.entries d.carriers

-- the number of carrier i's last visit: the visits of the carriers up to i come first
abbrev pub last_visit : Draft → ℕ → ℕ
last_visit d i = length (first_visits d.entries (i + 1)) - 1

-- visit v is the last of carrier i
abbrev pub LastOf : List Visit → ℕ → ℕ → Type 0
LastOf vs i v = (v < length vs) × ((visit vs v).carrier ≡ i) × (has_next vs v ≡ false)
