-- The crossings of a plan's visits.
use Rattle.std.specs.Prelude.{ℕ, Bool, false, not, ◌&&◌, List, map, length, filter, ◌==◌, nat_lt}
use Rattle.std.specs.List.{range_with_len, flat_map}
use Rattle.walk.specs.declared.visit.Visit.{Visit}
use Rattle.walk.specs.declared.crossing.Crossing.{Crossing}
use Rattle.walk.specs.Edges.{visit}

-- Two visits are of different carriers in one cell, and the first has the earlier step. Two such visits at one step would be a clash.
abbrev pub cross : Visit → Visit → Bool
cross a b = not (a.carrier == b.carrier) && (a.cell == b.cell && nat_lt a.step b.step)

-- visits u and w do
abbrev pub crosses : List Visit → ℕ → ℕ → Bool
crosses vs u w = cross (visit vs u) (visit vs w)

-- the crossing of the two, one-way unless it is found to be two-way
abbrev pub crossing_of : List Visit → ℕ → ℕ → Crossing
crossing_of vs u w = record { cell = (visit vs u).cell; first = u; second = w; two_way = false }

-- the crossings whose first visit is u, by their second
abbrev pub crossings_from : List Visit → ℕ → List Crossing
crossings_from vs u = map (crossing_of vs u) (filter (crosses vs u) (range_with_len 0 (length vs)))

-- the crossings whose first visit is below n, by their first and then by their second
abbrev pub crossings_below : List Visit → ℕ → List Crossing
crossings_below vs n = flat_map (crossings_from vs) (range_with_len 0 n)

-- all crossings; a crossing's number is its place here
abbrev pub plan_crossings : List Visit → List Crossing
plan_crossings vs = crossings_below vs (length vs)
