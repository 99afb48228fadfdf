use Rattle.std.proofs.Common.{◌≡◌, map, sym, ap, ◌∙◌}
use Rattle.fixed.specs.Items.{items}
use Rattle.record.specs.Paths.{paths_draft}
use Rattle.plan.specs.Plans.{plan_draft}
use Rattle.visit.specs.Visits.{plan_visits}
use Rattle.visit.specs.Crossings.{plan_crossings}
use Rattle.graph.specs.Graphs.{one_way}
use Rattle.graph.proofs.Facts.{plan_one_way, timely_between, graph_timely}
use Rattle.graph.proofs.net.Net.of.Goals as goal

pub invariant_of-net : goal.invariant_of-net
invariant_of-net c =
    let vs = items c.visits_of-visits.result in
    let cs = items c.in_ok-crossings.crossings in
    let visited = c.visits_of-visits.ensures ∙ ap (λ r. plan_visits (paths_draft r)) c.paths.ensures in
    let crossed = c.in_ok-crossings.ensures.0 in
    let alike : map one_way cs ≡ plan_crossings vs = ap (map one_way) crossed ∙ plan_one_way vs in
    record { between = timely_between vs cs (graph_timely (plan_draft c.args.plan.now) vs cs c.args.plan.now.clear visited alike) }

pub returns : goal.returns
returns c =
    let vs = items c.visits_of-visits.result in
    let visits = c.test_all.ensures.visits in
    record {
      visits_are = visits ∙ c.visits_of-visits.ensures ∙ ap (λ r. plan_visits (paths_draft r)) c.paths.ensures;
      crossings_are =
          c.test_all.ensures.same ∙ ap (map one_way) c.in_ok-crossings.ensures.0 ∙ plan_one_way vs ∙ ap plan_crossings (sym visits);
      two_way_are = c.test_all.ensures.tested;
    }
