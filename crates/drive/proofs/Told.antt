-- What is known of a carrier from what a drive answers of it.
use Rattle.std.proofs.Common.{◌≡◌, ℕ, ◌<◌, Some, None, Ok, Option, arith}
use Rattle.std.proofs.lemmas.Bool.Decides.{nat_tests}
use Rattle.drive.specs.declared.place.Place.{Place}
use Rattle.drive.specs.declared.place.Place.TheVariants.{Standing, Going}
use Rattle.drive.specs.Refusals.{departure, destination}

-- a carrier that is sent stands
pub stood : (p : Option Place) (c t a : ℕ) → departure p c t ≡ Ok a → (p ≡ Some (Standing a)) × (t < 4096)
stood None c t a e = grind (arith, nat_tests)
stood (Some (Standing b)) c t a e = grind (arith, nat_tests)
stood (Some (Going b d)) c t a e = grind (arith, nat_tests)

-- a carrier that is reported on goes
pub went : (p : Option Place) (c b : ℕ) → destination p c ≡ Ok b → (a : ℕ) × (p ≡ Some (Going a b))
went None c b e = let z : ◌≡◌ {A = ℕ} 0 1 = cc in absurd (omega arith)
went (Some (Standing a)) c b e = let z : ◌≡◌ {A = ℕ} 0 1 = cc in absurd (omega arith)
went (Some (Going a x)) c b e = (a, cc)
