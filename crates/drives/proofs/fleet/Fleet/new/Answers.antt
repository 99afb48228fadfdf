use Rattle.std.proofs.Common.{ap, ◌∙◌, map}
use Rattle.std.proofs.lemmas.Iterator.{YieldsList-from_take, YieldsList-from_slice}
use Rattle.std.proofs.lemmas.Iterator.Consumers.{YieldsList-end, YieldsList-at}
use Rattle.drive.specs.declared.place.Place.TheVariants.{Standing}
use Rattle.drives.proofs.fleet.Fleet.new.Goals as goal

pub returns : goal.returns
returns c =
    let taken = c.take-cell-items.ensures in
    let all = YieldsList-at c.into_iter-cell-iterator.ensures.into_iter_gives (YieldsList-from_take 16 (YieldsList-at taken.source (YieldsList-from_slice c.args.cells.now c.iter.ensures.rest)) taken.count) in
    c.loop-cell.invariant.list ∙ ap (map Standing) (YieldsList-end all c.loop-cell.yielded _ c.loop-cell.yielded_by _ _ c.in-None.is c.next.ensures.steps).0
