-- Which of several is named: the first, in a given order.
use Rattle.std.specs.Prelude.{◌≡◌, ℕ, ◌<◌, Ok, Err, Result}
use Rattle.fault.specs.declared.kinds.Meeting.{Meeting}

-- x is as P says, and nothing before x is
abbrev pub First : {X : Type 0} → (X → X → Type 0) → (X → Type 0) → X → Type 0
First {X} Before P x = P x × ((y : X) → Before y x → P y → ⊥)

-- in the order of the numbers that things have
abbrev pub By : {X : Type 0} → (X → ℕ) → X → X → Type 0
By rank x y = rank x < rank y

-- meetings in the order of their steps, then of their first and then of their second carriers
pub data Sooner (m n : Meeting) : Type 0 where
  by_step : m.step < n.step → Sooner m n
  by_first : m.step ≡ n.step → m.first < n.first → Sooner m n
  by_second : m.step ≡ n.step → m.first ≡ n.first → m.second < n.second → Sooner m n

-- What reading answers: something that is as Reads says, and then no fault applies; or the first fault that applies.
abbrev pub Verdict : {X F : Type 0} → (F → ℕ) → (F → Type 0) → (X → Type 0) → Result X F → Type 0
Verdict {F = F} number Applies Reads (Ok x) = Reads x × ((f : F) → Applies f → ⊥)
Verdict number Applies Reads (Err f) = First (By number) Applies f
