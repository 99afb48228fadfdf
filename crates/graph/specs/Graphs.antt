-- The graph of a plan.
use Rattle.std.specs.Prelude.{◌≡◌, ℕ, ◌<◌, false, List, [], map, length, Some, None, Option}
use Rattle.record.specs.Layout.{Draft}
use Rattle.plan.specs.declared.accepted.Plan.{Plan}
use Rattle.plan.specs.Plans.{plan_draft}
use Rattle.walk.specs.declared.visit.Visit.{Visit}
use Rattle.walk.specs.declared.crossing.Crossing.{Crossing}
use Rattle.walk.specs.Ways.{Tested}
use Rattle.visit.specs.Visits.{plan_visits}
use Rattle.visit.specs.Crossings.{plan_crossings}

-- a crossing, whether or not it is two-way
abbrev pub one_way : Crossing → Crossing
one_way x = record { cell = x.cell; first = x.first; second = x.second; two_way = false }

-- the crossings below n are two-way exactly where they pass the test
abbrev pub AllTested : List Visit → List Crossing → ℕ → Type 0
AllTested vs cs n = (k : ℕ) → k < n → Tested vs cs k

-- The graph of what a plan says: its visits, their crossings, and which of these are two-way.
pub record GraphOf (d : Draft) (vs : List Visit) (cs : List Crossing) : Type 0 where
  pub visits_are : vs ≡ plan_visits d
  pub crossings_are : map one_way cs ≡ plan_crossings vs
  pub two_way_are : AllTested vs cs (length cs)

-- what an accepted plan says; no plan has no carriers
abbrev pub held : Option Plan → Draft
held None = record { width = 0; height = 0; carriers = 0; entries = [] }
held (Some p) = plan_draft p
