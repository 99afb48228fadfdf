-- What a carrier holds.
use Rattle.std.specs.Prelude.{◌≡◌, ℕ, ◌⊎◌}
use Rattle.drive.specs.declared.place.Place.{Place}
use Rattle.drive.specs.declared.place.Place.TheVariants.{Standing, Going}

-- a carrier holds the cell in which it stands, or both cells between which it goes
abbrev pub Holds : Place → ℕ → Type 0
Holds (Standing a) x = x ≡ a
Holds (Going a b) x = (x ≡ a) ⊎ (x ≡ b)
