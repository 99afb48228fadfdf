use Rattle.std.proofs.Common.{ℕ, List, Ok, Err, subst}
use Rattle.std.proofs.lemmas.Result.{IfOk-weaker}
use Rattle.graph.specs.Verdicts.{graph_draft, graph_visits, graph_crossings, GraphJudged}
use Rattle.listing.proofs.list.Goals as goal

pub returns-in-Ok : goal.returns-in-Ok
returns-in-Ok c =
    let g = c.load.new.self in
    let P : List ℕ → Type 0 = λ b. GraphJudged b (Ok (graph_draft g)) in
    let judged = subst P c.record_in.ensures c.in-Ok.ensures.judged in
    IfOk-weaker c.format.result _ _ (λ s e. (Ok (graph_draft g), judged, (graph_visits g, graph_crossings g, c.in-Ok.ensures.built.built, e))) c.format.ensures.ok

pub returns-in-Err : goal.returns-in-Err
returns-in-Err c =
    let P : List ℕ → Type 0 = λ b. GraphJudged b (Err c.in-Err.fault) in
    let judged = subst P c.record_in.ensures c.in-Err.ensures.judged in
    IfOk-weaker c.format-in-Err.result _ _ (λ s e. (Err c.in-Err.fault, judged, e)) c.format-in-Err.ensures.ok
