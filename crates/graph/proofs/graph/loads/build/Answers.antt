use Rattle.std.proofs.Common.{◌≡◌, Ok, Err, Result, sym, subst, MatchResult}
use Rattle.plan.specs.Plans.{plan_draft}
use Rattle.graph.specs.declared.net.Net.{Net}
use Rattle.graph.specs.Graphs.{GraphOf}
use Rattle.graph.specs.Nets.{net_visits, net_crossings}
use Rattle.graph.proofs.graph.loads.build.Goals as goal

-- what holds of a value that was made holds where its error was only renamed
kept_ok : {X E : Type 0} (F : Type 0) (P : X → Type 0) (Q R : E → Type 0) (r : Result X E) (x : X)
    → MatchResult r (λ y. ◌≡◌ {A = Result X F} (Ok x) (Ok y)) R → ((e : E) → R e → ⊥) → MatchResult r P Q → P x
kept_ok F P Q R (Ok y) x same never holds = let e : x ≡ y = cc in subst P (sym e) holds
kept_ok F P Q R (Err e) x same never holds = absurd (never e same)

pub invariant_of-result : goal.invariant_of-result
invariant_of-result c =
    let Of : Net → Type 0 = λ net. GraphOf (plan_draft c.args.plan) (net_visits net) (net_crossings net) in
    let of : Of c.in_ok-net.net = kept_ok _ Of _ _ c.of.result c.in_ok-net.net c.in_ok-net.ensures.cases (λ e h. h) c.of.ensures in
    record { visited = of.visits_are; crossed = of.crossings_are; tested = ∣ of.two_way_are ∣₁ }
