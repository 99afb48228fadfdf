-- Walks over edges. Of an edge only the visits that it leads from and to matter here.
use Rattle.std.specs.Prelude.{◌≡◌, ◌≢◌, ℕ, zero, suc, ◌≤◌, true, cond, List, [], ◌∷◌, map, length, ◌==◌, AllPairs, Contains}
use Rattle.std.specs.List.{flat_map}
use Rattle.walk.specs.declared.visit.Visit.{Visit}
use Rattle.walk.specs.declared.crossing.Crossing.{Crossing}
use Rattle.walk.specs.declared.crossing.Ways.{Ways}
use Rattle.walk.specs.Edges.{Edge, from, to, is_edge, edges}

-- w is a walk from visit u to visit v over edges that Is holds of: a list of edges, the last one first, each of which starts
-- where the one before it ended. The walk of no edges ends where it began.
abbrev pub Walk : {E : Type 0} → (E → ℕ) → (E → ℕ) → (E → Type 0) → ℕ → ℕ → List E → Type 0
Walk from to Is u v [] = u ≡ v
Walk from to Is u v (e ∷ w) = Is e × (to e ≡ v) × Walk from to Is u (from e) w

-- no element stands twice
abbrev pub Distinct : {X : Type 0} → List X → Type 0
Distinct = AllPairs (λ a b. a ≢ b)

-- the walks of at most k of the edges es that end at v, one after another
abbrev pub walks : {E : Type 0} → (E → ℕ) → (E → ℕ) → List E → ℕ → ℕ → List (List E)
walks from to es zero v = [] ∷ []
walks from to es (suc k) v = [] ∷ flat_map (λ e. cond (to e == v) (map (λ w. e ∷ w) (walks from to es k (from e))) []) es

-- w is a walk of the graph from visit u to visit v, where `ways` says which edges of each crossing are taken
abbrev pub GraphWalk : List Visit → List Crossing → (ℕ → Ways) → ℕ → ℕ → List Edge → Type 0
GraphWalk vs cs ways = Walk (from cs) (to cs) (λ e. is_edge vs cs ways e ≡ true)

-- the walks of the graph of at most k edges that end at v
abbrev pub graph_walks : List Visit → List Crossing → (ℕ → Ways) → ℕ → ℕ → List (List Edge)
graph_walks vs cs ways = walks (from cs) (to cs) (edges vs cs ways)

-- that list has nothing else, every one of them, and none twice
pub record ListsWalks (vs : List Visit) (cs : List Crossing) (ways : ℕ → Ways) (k v : ℕ) : Type 0 where
  pub only : (w : List Edge) → Contains (graph_walks vs cs ways k v) w → (length w ≤ k) × ((u : ℕ) × GraphWalk vs cs ways u v w)
  pub all : (u : ℕ) (w : List Edge) → length w ≤ k → GraphWalk vs cs ways u v w → Contains (graph_walks vs cs ways k v) w
  pub once : Distinct (graph_walks vs cs ways k v)
