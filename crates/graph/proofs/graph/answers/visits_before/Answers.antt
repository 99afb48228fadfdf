use Rattle.std.proofs.Common.{◌<◌, ◌^◌, sum_by, sym, ◌∙◌, rules, arith, refl}
use Rattle.std.specs.List.{range_with_len}
use Rattle.std.proofs.lemmas.Iterator.{YieldsList-from_range, YieldsList-from_map}
use Rattle.std.proofs.lemmas.Iterator.Consumers.{YieldsList-at, sum_by_from_yields_List, fits_by_from_yields_list}
use Rattle.record.specs.Steps.{visits}
use Rattle.record.specs.Paths.{paths_draft}
use Rattle.record.proofs.Sound.{draft_few}
use Rattle.visit.proofs.Few.{count_visits, visits_few}
use Rattle.graph.proofs.graph.answers.visits_before.Goals as goal

pub sum-requires-clause-fits : goal.sum-requires-clause-fits
sum-requires-clause-fits c =
    let d = paths_draft c.args.paths.now in
    let i = c.args.carrier in
    let few : sum_by (visits d) (range_with_len 0 i) < 2 ^ 64 =
    omega (arith, count_visits d.entries i, visits_few d.entries i, draft_few c.args.paths.now) in
    fits_by_from_yields_list (visits d) (range_with_len 0 i) c.map.result _
    (YieldsList-from_map _ (visits d) (YieldsList-at c.map.ensures.source (YieldsList-from_range 0 i i refl (omega arith))) c.map.ensures.closure
    (λ x r q k. search rules)) few

pub returns : goal.returns
returns c =
    let d = paths_draft c.args.paths.now in
    let i = c.args.carrier in
    sum_by_from_yields_List (visits d) (range_with_len 0 i) c.map.result _ c.sum.ensures.ran
    (YieldsList-from_map _ (visits d) (YieldsList-at c.map.ensures.source (YieldsList-from_range 0 i i refl (omega arith))) c.map.ensures.closure
    (λ x r q k. search rules))
    ∙ sym (count_visits d.entries i)
