-- Sums along walks.
use Rattle.std.specs.Prelude.{ℕ, List, [], ◌∷◌, map, length}
use Rattle.walk.specs.declared.visit.Visit.{Visit}
use Rattle.walk.specs.declared.crossing.Crossing.{Crossing}
use Rattle.walk.specs.declared.crossing.Ways.{Ways}
use Rattle.walk.specs.Edges.{from, to, edges, visit}
use Rattle.walk.specs.Walks.{walks}
use Rattle.walk.specs.Values.{Operations}

-- all of the values joined
abbrev pub total : {K : Type 0} → Operations K → List K → K
total ops [] = ops.zero
total ops (x ∷ xs) = ops.join x (total ops xs)

-- What a walk that ends at v brings there: the starting value of its first visit, carried into each visit that it enters.
abbrev pub brought : {K E : Type 0} → Operations K → List Visit → (E → ℕ) → (ℕ → K) → ℕ → List E → K
brought ops vs from start v [] = start v
brought ops vs from start v (e ∷ w) = ops.step (brought ops vs from start (from e) w) (visit vs v)

-- the join over all walks of at most k of the edges es that end at v
unfoldable pub sum_over : {K E : Type 0} → Operations K → List Visit → (E → ℕ) → (E → ℕ) → List E → (ℕ → K) → ℕ → ℕ → K
sum_over ops vs from to es start k v = total ops (map (brought ops vs from start v) (walks from to es k v))

-- The sum at a visit: over all walks of at most as many edges as there are visits.
abbrev pub sum_at : {K : Type 0} → Operations K → List Visit → List Crossing → (ℕ → Ways) → (ℕ → K) → ℕ → K
sum_at ops vs cs ways start v = sum_over ops vs (from cs) (to cs) (edges vs cs ways) start (length vs) v
