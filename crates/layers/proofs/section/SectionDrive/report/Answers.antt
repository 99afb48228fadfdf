use Rattle.std.proofs.Common.{refl}
use Rattle.layers.proofs.Renumbering.{answers}
use Rattle.layers.proofs.section.SectionDrive.report.Goals as goal

pub returns : goal.returns
returns g c =
    let b = c.in_ok-below.ensures in
    rw c.restated.ensures (answers g.D.Drive.meaning c.args.self.now c.args.carrier (b.shown.0 refl) g.D.Drive.reports c.report.result c.report.new.self (rw b.number at c.report.ensures))
