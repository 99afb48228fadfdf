-- What a drive's calls answer and change.
use Rattle.std.specs.Prelude.{◌≡◌, ℕ, if◌then◌else◌, List, Some, Ok, Err, Result, slice_set, ◌==◌}
use Rattle.std.specs.List.{slice_get}
use Rattle.fault.specs.declared.kinds.DriveFault.{DriveFault}
use Rattle.fault.specs.declared.kinds.DriveFault.TheVariants.{NotThere}
use Rattle.drive.specs.declared.place.Answer.{Answer}
use Rattle.drive.specs.declared.place.Answer.TheVariants.{There, NotYet}
use Rattle.drive.specs.declared.place.Place.{Place}
use Rattle.drive.specs.declared.place.Place.TheVariants.{Standing, Going}
use Rattle.drive.specs.Refusals.{departure, destination}

-- a byte as an answer
abbrev pub answer_of : ℕ → Answer
answer_of b = if b == 0 then NotYet else There

-- an answer as the result of a report on carrier c
abbrev pub told : ℕ → Answer → Result Unit DriveFault
told c There = Ok tt
told c NotYet = Err (NotThere c)

-- where all are after an answer to a report on carrier c, which goes to cell b
abbrev pub settled : List Place → ℕ → ℕ → Answer → List Place
settled ps c b There = slice_set ps c (Standing b)
settled ps c b NotYet = ps

-- A call that is refused answers the fault and leaves the drive as it was. Any other goes as Done says, of the cell that is found.
abbrev pub RefusedOr : {D : Type 0} → Result ℕ DriveFault → (ℕ → Result Unit DriveFault → D → Type 0) → D → Result Unit DriveFault → D → Type 0
RefusedOr (Err f) Done d r e = (r ≡ Err f) × (e ≡ d)
RefusedOr (Ok x) Done d r e = Done x r e

module _ {D : Type 0} (meaning : D → List Place) where
  -- Carrier c goes to cell t from the cell a in which it stood, and all others are where they were.
  abbrev pub Goes : (D → ℕ → ℕ → D) → D → ℕ → ℕ → ℕ → Result Unit DriveFault → D → Type 0
  Goes sent d c t a r e = (r ≡ Ok tt) × (e ≡ sent d c t) × (meaning e ≡ slice_set (meaning d) c (Going a t))

  -- a send of carrier c to cell t
  abbrev pub Sent : (D → ℕ → ℕ → D) → D → ℕ → ℕ → Result Unit DriveFault → D → Type 0
  Sent sent d c t r e = RefusedOr (departure (slice_get (meaning d) c) c t) (Goes sent d c t) d r e

  -- Of carrier c, which goes to cell b, the answer is one that the rule allows. If that is "there", the carrier stands in b now, and
  -- all others are where they were.
  abbrev pub Tells : (D → ℕ → Answer → D → Type 0) → D → ℕ → ℕ → Result Unit DriveFault → D → Type 0
  Tells reports d c b r e = (a : Answer) × (r ≡ told c a) × reports d c a e × (meaning e ≡ settled (meaning d) c b a)

  -- a report on carrier c
  abbrev pub Reported : (D → ℕ → Answer → D → Type 0) → D → ℕ → Result Unit DriveFault → D → Type 0
  Reported reports d c r e = RefusedOr (destination (slice_get (meaning d) c) c) (Tells reports d c) d r e

  -- A rule that leaves no choice: a report on a carrier that goes has one answer, and there is one drive after it.
  abbrev pub Exact : (D → ℕ → Answer → D → Type 0) → Type 0
  Exact reports =
      (d : D) (c x y : ℕ) → slice_get (meaning d) c ≡ Some (Going x y) → (a : Answer) × (e : D) × reports d c a e × ((b : Answer) (f : D) → reports d c b f → (b ≡ a) × (f ≡ e))
