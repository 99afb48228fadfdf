-- Visits, crossings, and the edges between visits.
use Rattle.std.specs.Prelude.{ℕ, ◌+◌, ◌-◌, Bool, false, not, ◌&&◌, ◌||◌, List, [], ◌∷◌, ◌++◌, map, length, filter, ◌==◌, nat_lt, slice_index_or}
use Rattle.std.specs.List.{range_with_len, flat_map}
use Rattle.walk.specs.declared.visit.Visit.{Visit}
use Rattle.walk.specs.declared.crossing.Crossing.{Crossing}
use Rattle.walk.specs.declared.crossing.Ways.{Ways}

abbrev pub no_visit : Visit
no_visit = record { carrier = 0; cell = 0; step = 0 }

abbrev pub visit : List Visit → ℕ → Visit
visit vs v = slice_index_or vs v no_visit

abbrev pub no_crossing : Crossing
no_crossing = record { cell = 0; first = 0; second = 0; two_way = false }

abbrev pub crossing : List Crossing → ℕ → Crossing
crossing cs k = slice_index_or cs k no_crossing

-- the carrier of visit v goes on to another visit after it, and that is visit v + 1
abbrev pub has_next : List Visit → ℕ → Bool
has_next vs v = nat_lt (v + 1) (length vs) && (visit vs (v + 1)).carrier == (visit vs v).carrier

-- visit v is the first of its carrier
abbrev pub is_start : List Visit → ℕ → Bool
is_start vs v = v == 0 || not ((visit vs (v - 1)).carrier == (visit vs v).carrier)

-- An edge: on a carrier's path from visit v to its next; or the plan edge or the reversed edge of crossing k.
pub data Edge : Type 0 where
  path_edge : ℕ → Edge
  plan_edge : ℕ → Edge
  reversed_edge : ℕ → Edge

-- The visits that an edge leads from and to. Of a crossing's two visits, one is to be left before the other is entered: in the
-- plan's order the first, reversed the second.
abbrev pub from : List Crossing → Edge → ℕ
from cs (path_edge v) = v
from cs (plan_edge k) = (crossing cs k).first + 1
from cs (reversed_edge k) = (crossing cs k).second + 1

abbrev pub to : List Crossing → Edge → ℕ
to cs (path_edge v) = v + 1
to cs (plan_edge k) = (crossing cs k).second
to cs (reversed_edge k) = (crossing cs k).first

-- Whether there is such an edge, where `ways` says which edges of each crossing are taken. In the graph of a plan the first visit of a
-- crossing always has a next, so that its plan edge needs no test of that.
abbrev pub is_edge : List Visit → List Crossing → (ℕ → Ways) → Edge → Bool
is_edge vs cs ways (path_edge v) = has_next vs v
is_edge vs cs ways (plan_edge k) = nat_lt k (length cs) && (ways k).plan
is_edge vs cs ways (reversed_edge k) = nat_lt k (length cs) && ((ways k).reversed && has_next vs (crossing cs k).second)

-- all the edges that there are
abbrev pub edges : List Visit → List Crossing → (ℕ → Ways) → List Edge
edges vs cs ways =
    filter (is_edge vs cs ways)
    (map path_edge (range_with_len 0 (length vs)) ++ flat_map (λ k. plan_edge k ∷ reversed_edge k ∷ []) (range_with_len 0 (length cs)))
