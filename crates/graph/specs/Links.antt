-- Edges as the code keeps them: the visits that they lead from and to.
use Rattle.std.specs.Prelude.{ℕ, ◌+◌, ◌<◌, ◌&&◌, if◌then◌else◌, List, ◌++◌, map, length, slice_index_or, Option, Some, None}
use Rattle.std.specs.Option.{option_to_list}
use Rattle.walk.specs.declared.visit.Visit.{Visit}
use Rattle.walk.specs.declared.crossing.Crossing.{Crossing}
use Rattle.walk.specs.declared.crossing.Ways.{Ways}
use Rattle.walk.specs.Edges.{Edge, from, to, edges, crossing, has_next}
use Rattle.graph.specs.declared.links.Link.{Link}

abbrev pub link : List Crossing → Edge → Link
link cs e = record { from = from cs e; to = to cs e }

abbrev pub links : List Visit → List Crossing → (ℕ → Ways) → List Link
links vs cs ways = map (link cs) (edges vs cs ways)

abbrev pub link_from : Link → ℕ
link_from l = l.from

abbrev pub link_to : Link → ℕ
link_to l = l.to

-- both ends are among n visits
abbrev pub Within : ℕ → Link → Type 0
Within n l = (l.from < n) × (l.to < n)

-- all of the links are
abbrev pub Inside : ℕ → List Link → Type 0
Inside n ls = (k : ℕ) → k < length ls → Within n (slice_index_or ls k (record { from = 0; to = 0 }))

-- the link from visit v along its carrier's path, if it goes on
abbrev pub path_link : List Visit → ℕ → Option Link
path_link vs v = if has_next vs v then Some (record { from = v; to = v + 1 }) else None

-- the links of a crossing, if they are taken
abbrev pub plan_link : Crossing → Ways → Option Link
plan_link x taken = if taken.plan then Some (record { from = x.first + 1; to = x.second }) else None

abbrev pub reversed_link : List Visit → Crossing → Ways → Option Link
reversed_link vs x taken =
    if taken.reversed && has_next vs x.second then Some (record { from = x.second + 1; to = x.first }) else None

abbrev pub crossing_links : List Visit → List Crossing → (ℕ → Ways) → ℕ → List Link
crossing_links vs cs ways k =
    option_to_list (plan_link (crossing cs k) (ways k)) ++ option_to_list (reversed_link vs (crossing cs k) (ways k))
