-- What a drive refuses. The order of the lines is the order of the checks.
use Rattle.std.specs.Prelude.{ℕ, if◌then◌else◌, Some, None, Ok, Err, Option, Result, nat_lt}
use Rattle.fault.specs.declared.kinds.DriveFault.{DriveFault}
use Rattle.fault.specs.declared.kinds.DriveFault.TheVariants.{NoCarrier, AlreadyGoing, NotGoing, NoCell}
use Rattle.drive.specs.declared.place.Place.{Place}
use Rattle.drive.specs.declared.place.Place.TheVariants.{Standing, Going}

-- the cell that carrier c leaves from this place
abbrev pub leaves : Place → ℕ → Result ℕ DriveFault
leaves (Going a b) c = Err (AlreadyGoing c)
leaves (Standing a) c = Ok a

-- the cell that carrier c, which is in this place, leaves when it is sent to cell t; or why it is not sent
abbrev pub departure_from : Place → ℕ → ℕ → Result ℕ DriveFault
departure_from p c t = if nat_lt t 4096 then leaves p c else Err (NoCell t)

-- the same of a carrier that may not exist
abbrev pub departure : Option Place → ℕ → ℕ → Result ℕ DriveFault
departure None c t = Err (NoCarrier c)
departure (Some p) c t = departure_from p c t

-- the cell to which carrier c, which is in this place, goes; or why there is no report on it
abbrev pub destination_of : Place → ℕ → Result ℕ DriveFault
destination_of (Standing a) c = Err (NotGoing c)
destination_of (Going a b) c = Ok b

-- the same of a carrier that may not exist
abbrev pub destination : Option Place → ℕ → Result ℕ DriveFault
destination None c = Err (NoCarrier c)
destination (Some p) c = destination_of p c
