use Rattle.std.proofs.Common.{◌<◌, length, arith}
use Rattle.std.proofs.lemmas.List.{take_more_set}
use Rattle.fixed.proofs.list.Bounded.push.Goals as goal

pub returns : goal.returns
returns g c =
    let h : c.args.self.now.count < length c.args.self.now.slots = omega (arith, c.args.self.now.room, c.args.self.now.few) in
    take_more_set _ _ _ h
