-- Fleets are equal if their carriers are in the same places.
use Rattle.std.proofs.Common.{◌≡◌, ◌≤◌, length, ap, subst}
use Rattle.std.specs.Coded.{le_prop}
use Rattle.drives.specs.Fleets.{Carriers}

pub same_places : (f g : Carriers) → f.places ≡ g.places → f ≡ g
same_places f g e = subst (λ ps. (few : length ps ≤ 16) → f ≡ record { places = ps; few = few }) e (λ few. ap (λ few. record { places = f.places; few = few }) (le_prop f.few few)) g.few
