use Rattle.std.proofs.Common.{◌≡◌, ℕ, ◌+◌, true, not, ◌&&◌, List, Decides, sym, ap, ◌∙◌, subst, arith}
use Rattle.fixed.proofs.Held.{items_few}
use Rattle.walk.specs.declared.crossing.Crossing.{Crossing}
use Rattle.walk.specs.Edges.{Edge, crossing, has_next, is_start}
use Rattle.walk.specs.Walks.{GraphWalk}
use Rattle.graph.specs.Inputs.{ways_in}
use Rattle.graph.specs.Nets.{net_visits, net_crossings}
use Rattle.graph.proofs.Testing.{test_decides}
use Rattle.graph.proofs.net.Net.passes.Goals as goal

pub returns-then-is_candidate : goal.returns-then-is_candidate
returns-then-is_candidate c =
    let net = c.args.self.now in
    let vs = net_visits net in
    let cs = net_crossings net in
    let k = c.args.tested in
    let ways = ways_in c.test_ways.result in
    let Can : List Crossing → Type 0 = λ xs. (not (is_start vs (crossing xs k).first) && has_next vs (crossing xs k).second) ≡ true in
    let P : ℕ → ℕ → Type 0 = λ u v. Decides c.leads.result ((w : List Edge) × GraphWalk vs cs ways u (v + 1) w) in
    let first = c.from.ensures ∙ ap (λ xs. (crossing xs k).first) c.crossings.ensures in
    let second = c.from-then-is_candidate.ensures ∙ ap (λ xs. (crossing xs k).second) c.crossings.ensures in
    let leads = subst (λ u. P u (crossing cs k).second) first (subst (P c.from.result) second c.leads.ensures) in
    test_decides vs cs k ways (λ j l. c.test_ways.ensures j (omega (arith, items_few net.crossings))) c.leads.result leads
    (subst Can c.crossings.ensures (sym c.is_candidate.ensures ∙ c.if-is_candidate.true))
