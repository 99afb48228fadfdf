use Rattle.std.proofs.Common.{◌≡◌, true, false, List, set, replicate, Decides, sym, ap, ◌∙◌, subst, arith}
use Rattle.walk.specs.declared.kinds.Mark.{Mark}
use Rattle.walk.specs.Edges.{Edge}
use Rattle.walk.specs.Walks.{GraphWalk}
use Rattle.walk.specs.Kinds.{mark, marks}
use Rattle.walk.specs.Sums.{sum_at}
use Rattle.walk.proofs.Marked.{marked_at}
use Rattle.graph.specs.Inputs.{ways_in, starts_in}
use Rattle.graph.specs.Nets.{net_visits, net_crossings}
use Rattle.fixed.proofs.Held.{items_few}
use Rattle.graph.proofs.Reached.{one_marked, marks_decide}
use Rattle.graph.proofs.net.Net.leads.Goals as goal

pub returns : goal.returns
returns c =
    let net = c.args.self.now in
    let vs = net_visits net in
    let cs = net_crossings net in
    let ways = ways_in c.args.ways.now in
    let u = c.args.from in
    let v = c.args.to in
    let start : starts_in (mark false) (set (replicate 512 c.default-start.result) u (mark true)) ≡ marked_at u =
    ap (λ b. starts_in (mark false) (set (replicate 512 (mark b)) u (mark true))) c.default-start.ensures
    ∙ one_marked 512 u (omega (arith, c.requires.from, items_few net.visits)) in
    let P : Mark → Type 0 = λ m. Decides m.set ((w : List Edge) × GraphWalk vs cs ways u v w) in
    subst P (sym (c.sum_at.ensures ∙ ap (λ s. sum_at marks vs cs ways s v) start)) (marks_decide vs cs ways net.between u c.requires.from v)
