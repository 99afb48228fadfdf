use Rattle.std.proofs.Common.{◌≡◌}
use Rattle.graph.specs.Nets.{net_visits, net_crossings}
use Rattle.graph.proofs.Testing.{Reaches}
use Rattle.graph.proofs.net.Net.test_all.Given as goal

abbrev pub invariant-loop-tested : goal.invariant-loop-tested
invariant-loop-tested l =
    record {
      visits : net_visits l.self ≡ net_visits l.initial.self;
      reached : Reaches (net_visits l.self) (net_crossings l.initial.self) (net_crossings l.self) l.tested;
    }
