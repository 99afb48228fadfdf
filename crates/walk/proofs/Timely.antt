-- What a plan without conflicts gives of the times of its visits: each edge of the plan leads to a later step.
use Rattle.std.proofs.Common.{◌≡◌, ℕ, ◌+◌, ◌<◌, true, List, length}
use Rattle.walk.specs.declared.visit.Visit.{Visit}
use Rattle.walk.specs.declared.crossing.Crossing.{Crossing}
use Rattle.walk.specs.Edges.{visit, crossing, has_next}

pub record Timely (vs : List Visit) (cs : List Crossing) : Type 0 where
  -- a carrier's next visit is later
  pub later : (v : ℕ) → has_next vs v ≡ true → (visit vs v).step < (visit vs (v + 1)).step
  -- a crossing's visits are there, and the first carrier goes on from the cell before the second comes
  pub second_there : (k : ℕ) → k < length cs → (crossing cs k).second < length vs
  pub first_leaves : (k : ℕ) → k < length cs → has_next vs (crossing cs k).first ≡ true
  pub clear : (k : ℕ) → k < length cs → (visit vs ((crossing cs k).first + 1)).step < (visit vs (crossing cs k).second).step
