use Rattle.std.proofs.Common.{arith}
use lib.ListN.{length-replicate}
use Rattle.fixed.proofs.list.Bounded.new.Goals as goal

pub invariant_of-result : goal.invariant_of-result
invariant_of-result g c = record { room = length-replicate _ _; few = omega arith }
