use Rattle.std.proofs.Common.{◌≡◌, ℕ, ◌<◌, List, length, get_or, ap, ◌∙◌, arith}
use Rattle.std.proofs.lemmas.List.{same_lists, get_or_default}
use Rattle.graph.proofs.sums.same.Goals as goal

alike : {K : Type 0} (blank : K) (xs ys : List K) → length xs ≡ length ys → ((k : ℕ) → k < length xs → get_or xs k blank ≡ get_or ys k blank) → xs ≡ ys
alike blank xs ys long h =
    same_lists xs ys long (λ k d l. get_or_default xs k d blank l ∙ h k l ∙ get_or_default ys k blank d (omega (arith, long)))

pub returns : goal.returns
returns g c = (
  λ t. alike g.K.Kind.ops.zero _ _ c.requires (c.agree.ensures.0 t),
  λ e. c.agree.ensures.1 (λ k h. ap (λ xs. get_or xs k g.K.Kind.ops.zero) e),
)
