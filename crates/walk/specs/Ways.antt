-- Which crossings can be passed in either order.
use Rattle.std.specs.Prelude.{◌≡◌, ℕ, ◌+◌, Bool, true, false, not, ◌&&◌, List, ◌∷◌, Decides, ◌==◌, nat_lt}
use Rattle.walk.specs.declared.visit.Visit.{Visit}
use Rattle.walk.specs.declared.crossing.Crossing.{Crossing}
use Rattle.walk.specs.declared.crossing.Ways.{Ways}
use Rattle.walk.specs.Edges.{crossing, has_next, is_start, Edge}
use Rattle.walk.specs.Walks.{GraphWalk}

-- A crossing is a candidate when its first visit is no carrier's start and its second no carrier's last.
abbrev pub Candidate : List Visit → List Crossing → ℕ → Type 0
Candidate vs cs k = (is_start vs (crossing cs k).first ≡ false) × (has_next vs (crossing cs k).second ≡ true)

-- the edges of the test of crossing k: the plan edges of all other crossings, and the reversed edges of the two-way ones before k
abbrev pub test_ways : List Crossing → ℕ → ℕ → Ways
test_ways cs k j = record { plan = not (j == k); reversed = nat_lt j k && (crossing cs j).two_way }

-- w is a walk over these from the crossing's first visit to the visit after its second
abbrev pub TestWalk : List Visit → List Crossing → ℕ → List Edge → Type 0
TestWalk vs cs k w = GraphWalk vs cs (test_ways cs k) (crossing cs k).first ((crossing cs k).second + 1) w

-- Crossing k passes the test: it is a candidate and there is no such walk. It is two-way exactly then.
abbrev pub Passes : List Visit → List Crossing → ℕ → Type 0
Passes vs cs k = Candidate vs cs k × ((w : List Edge) → TestWalk vs cs k w → ⊥)

abbrev pub Tested : List Visit → List Crossing → ℕ → Type 0
Tested vs cs k = Decides (crossing cs k).two_way (Passes vs cs k)

-- A choice of directions: `turned` says which crossings are passed in the reversed order, and only two-way ones are.
abbrev pub Choice : List Crossing → (ℕ → Bool) → Type 0
Choice cs turned = (k : ℕ) → turned k ≡ true → (crossing cs k).two_way ≡ true

abbrev pub chosen_ways : (ℕ → Bool) → ℕ → Ways
chosen_ways turned k = record { plan = not (turned k); reversed = turned k }

-- under every choice of directions, no walk of one or more edges ends where it began
abbrev pub NoCircle : List Visit → List Crossing → Type 0
NoCircle vs cs =
    (turned : ℕ → Bool) → Choice cs turned → (v : ℕ) (e : Edge) (w : List Edge) → GraphWalk vs cs (chosen_ways turned) v v (e ∷ w) → ⊥
