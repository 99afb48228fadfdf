use Rattle.std.proofs.Common.{◌≡◌, map}
use Rattle.fixed.specs.Items.{items}
use Rattle.drive.specs.declared.place.Place.TheVariants.{Standing}
use Rattle.drives.proofs.fleet.Fleet.new.Given as goal

abbrev pub invariant-loop-cell : goal.invariant-loop-cell
invariant-loop-cell l = record { list : items l.places ≡ map Standing (map (λ b. b.now) l.yielded) }
