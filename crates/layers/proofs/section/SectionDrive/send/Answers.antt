use Rattle.std.proofs.Common.{refl}
use Rattle.layers.proofs.Renumbering.{sends}
use Rattle.layers.proofs.section.SectionDrive.send.Goals as goal

pub returns : goal.returns
returns g c =
    let b = c.in_ok-below.ensures in
    rw c.restated.ensures (sends g.D.Drive.meaning c.args.self.now c.args.carrier (b.shown.0 refl) g.D.Drive.sent c.args.to c.send.result c.send.new.self (rw b.number at c.send.ensures))
