use Rattle.std.proofs.Common.{◌∙◌}
use Rattle.std.proofs.lemmas.List.{get_or-replicate}
use Rattle.graph.proofs.plan_sums.plan_ways.Goals as goal

pub returns : goal.returns
returns c k h = get_or-replicate 1024 k _ _ h ∙ c.plan_way.ensures
