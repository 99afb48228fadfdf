-- The fault of a drive where its carrier goes by another number; a cell stays.
use Rattle.std.specs.Prelude.{ℕ}
use Rattle.fault.specs.declared.kinds.DriveFault.{DriveFault}
use Rattle.fault.specs.declared.kinds.DriveFault.TheVariants.{NoCarrier, AlreadyGoing, NotGoing, NoCell, NotThere}

abbrev pub renumbered : ℕ → DriveFault → DriveFault
renumbered c (NoCarrier k) = NoCarrier c
renumbered c (AlreadyGoing k) = AlreadyGoing c
renumbered c (NotGoing k) = NotGoing c
renumbered c (NoCell t) = NoCell t
renumbered c (NotThere k) = NotThere c
