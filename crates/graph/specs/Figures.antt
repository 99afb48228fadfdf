-- What is asked of a graph.
use Rattle.std.specs.Prelude.{◌≡◌, ℕ, ◌-◌, ◌<◌, ◌≤◌, true, false, cond, ◌⊎◌, List, ◌++◌, map, length, drop, is_some, Some, None, Ok, Err, Option, Result, bit_or, count_ones, nat_lt}
use Rattle.std.specs.List.{range_with_len}
use Rattle.fault.specs.declared.kinds.RoomFault.{RoomFault}
use Rattle.record.specs.Layout.{Draft}
use Rattle.walk.specs.declared.visit.Visit.{Visit}
use Rattle.walk.specs.declared.crossing.Crossing.{Crossing}
use Rattle.walk.specs.declared.crossing.Ways.{Ways}
use Rattle.walk.specs.Edges.{visit, is_start}
use Rattle.walk.specs.Values.{Operations}
use Rattle.walk.specs.Sums.{sum_at}
use Rattle.walk.specs.Kinds.{steps, first_step, sets, own_carrier, carrier_bit}
use Rattle.visit.specs.Visits.{last_visit, LastOf}
use Rattle.graph.specs.declared.graph.reads.Outline.{Outline}
use Rattle.graph.specs.Inputs.{starts_in}

abbrev pub outline_of : Draft → Outline
outline_of d = record { width = d.width; height = d.height; carriers = d.carriers; entries = length d.entries }

-- a list with items written to its front, where there is room for them
abbrev pub Written : {X : Type 0} → List X → List X → List X → Type 0
Written items old new = (length items ≤ length old) × (new ≡ items ++ drop (length items) old)

-- What listing the crossings cs answers: how many they are, and they are written; or how many they are, more than there is room for.
abbrev pub CrossingsListed : List Crossing → List Crossing → List Crossing → Result ℕ RoomFault → Type 0
CrossingsListed cs old new (Ok n) = (n ≡ length cs) × Written cs old new
CrossingsListed cs old new (Err f) = (f.needed ≡ length cs) × (length old < f.needed) × (new ≡ old)

-- the sum at each visit
abbrev pub sums_of : {K : Type 0} → Operations K → List Visit → List Crossing → (ℕ → Ways) → List K → List K
sums_of ops vs cs ways start = map (sum_at ops vs cs ways (starts_in ops.zero start)) (range_with_len 0 (length vs))

-- What a sum over n visits answers: that the sums are written to both lists; or n, where one of the lists is shorter.
abbrev pub Summed : {K : Type 0} → ℕ → List K → List K → List K → List K → List K → List K → Result Unit RoomFault → Type 0
Summed n totals start sums sums' spare spare' (Ok u) = (n ≤ length start) × Written totals sums sums' × Written totals spare spare'
Summed n totals start sums sums' spare spare' (Err f) =
    (f.needed ≡ n) × ((length start < n) ⊎ ((length sums < n) ⊎ (length spare < n))) × (sums' ≡ sums) × (spare' ≡ spare)

-- all plan edges, and no reversed one
abbrev pub plan_ways : ℕ → Ways
plan_ways k = record { plan = true; reversed = false }

-- a starting value on each carrier's first visit, and nothing on the others
abbrev pub starts : {K : Type 0} → K → (Visit → K) → List Visit → List K
starts blank start vs = map (λ v. cond (is_start vs v) (start (visit vs v)) blank) (range_with_len 0 (length vs))

-- its sum at visit v, over path and plan edges
abbrev pub plan_sum : {K : Type 0} → Operations K → (Visit → K) → List Visit → List Crossing → ℕ → K
plan_sum ops start vs cs = sum_at ops vs cs plan_ways (starts_in ops.zero (starts ops.zero start vs))

-- of the carriers of a plan, by its visits and crossings
module _ (d : Draft) (vs : List Visit) (cs : List Crossing) (i : ℕ) where
  -- the earliest step of carrier i at its last visit
  abbrev pub earliest_step : Option ℕ
  earliest_step = cond (nat_lt i d.carriers) (plan_sum steps first_step vs cs (last_visit d i)).step None

  -- how many others carrier i relies on: the members of the set at its last visit, less one
  abbrev pub relied_on : Option ℕ
  relied_on = cond (nat_lt i d.carriers) (Some (count_ones (plan_sum sets own_carrier vs cs (last_visit d i)).bits - 1)) None

-- carrier i is in a set: to add it changes nothing
abbrev pub InSet : ℕ → ℕ → Type 0
InSet i s = bit_or s (carrier_bit i) ≡ s

-- Carrier i comes to its last visit: it has an earliest step, and is itself in the set there.
pub record Arrives (d : Draft) (vs : List Visit) (cs : List Crossing) (i : ℕ) : Type 0 where
  pub last : LastOf vs i (last_visit d i)
  pub known : is_some (earliest_step d vs cs i) ≡ true
  pub own : InSet i (plan_sum sets own_carrier vs cs (last_visit d i)).bits
