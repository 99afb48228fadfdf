use Rattle.std.proofs.lemmas.Result.{err_from_is_err_and}
use Rattle.fault.specs.declared.kinds.Flaw.TheVariants.{Cell}
use Rattle.record.specs.Searches.{listed}
use Rattle.record.proofs.Layers.{searched, before_cell, last_validated}
use Rattle.record.proofs.listing.Listing.validate.Goals as goal

pub returns-in_err-refuse-2 : goal.returns-in_err-refuse-2
returns-in_err-refuse-2 c =
    let p = err_from_is_err_and c.from_residual-in_err-refuse-2.result c.from_residual-in_err-refuse-2.ensures.1 in
    let (k, e, first) = searched (listed c.args.self.now) _ _ _ c.first_off_floor.ensures c.in_err-refuse-2.ensures in
    rw (p.1, p.2) (Cell, k, e, first, before_cell (listed c.args.self.now) (searched (listed c.args.self.now) _ _ _ c.first_misnumbered.ensures c.in_ok-refuse.ensures))

pub returns : goal.returns
returns c =
    last_validated (listed c.args.self.now) _ (searched (listed c.args.self.now) _ _ _ c.first_misnumbered.ensures c.in_ok-refuse.ensures)
    (searched (listed c.args.self.now) _ _ _ c.first_off_floor.ensures c.in_ok-refuse-2.ensures) (searched (listed c.args.self.now) _ _ _ c.first_jump.ensures c.refuse-3.ensures)
