use Rattle.std.proofs.Common.{rules}
use Rattle.drives.specs.Fleets.{with_place}
use Rattle.drives.proofs.Alike.{same_places}
use Rattle.drives.proofs.fleet.Fleet.put.Goals as goal

pub returns : goal.returns
returns c = same_places _ (with_place c.args.self.now c.args.carrier c.args.place) (search rules)
