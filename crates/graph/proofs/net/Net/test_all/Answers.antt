use Rattle.std.proofs.Common.{◌+◌, ◌<◌, List, length, sym, ap, ◌∙◌, subst, arith}
use Rattle.walk.specs.declared.visit.Visit.{Visit}
use Rattle.graph.specs.Nets.{net_visits, net_crossings}
use Rattle.graph.proofs.Alike.{lengths}
use Rattle.graph.proofs.Testing.{Reaches, reaches_more}
use Rattle.graph.proofs.net.Net.test_all.Goals as goal

pub loop-tested-preserved : goal.loop-tested-preserved
loop-tested-preserved c =
    let net = c.loop-tested.self in
    let all = net_crossings c.args.self.now in
    let at = c.loop-tested.invariant in
    let there : c.loop-tested.tested < length (net_crossings net) = omega (arith, ap length c.crossings-tested-end.ensures, lengths (net_crossings net) all at.reached.those) in
    let same = c.set_two_way.ensures.visits in
    let P : List Visit → Type 0 = λ vs. Reaches vs all (net_crossings c.set_two_way.new.self) (c.loop-tested.tested + 1) in
    record {
      visits = same ∙ at.visits;
      reached = subst P (sym same) (reaches_more (net_visits net) all (net_crossings net) (net_crossings c.set_two_way.new.self) c.loop-tested.tested c.passes-two_way.result at.reached there c.set_two_way.ensures.crossings c.passes-two_way.ensures);
    }

pub returns-clause-tested : goal.returns-clause-tested
returns-clause-tested c k h =
    let at = c.loop-tested.invariant in
    at.reached.judged k (omega (arith, ap length c.crossings-tested-end.ensures, lengths (net_crossings c.loop-tested.self) (net_crossings c.args.self.now) at.reached.those))
