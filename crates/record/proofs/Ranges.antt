-- `find` over `0..=n`, said of the numbers in it.
use Rattle.std.proofs.Common.{◌≡◌, ℕ, ◌+◌, ◌-◌, ◌<◌, ◌≤◌, Bool, true, false, Some, None, Option, IfSome, MatchOption, IsSomeAnd, IsTrue, rules, ap, ◌∙◌, subst, zero-add, arith}
use denote.Param.Members.{Mut}
use denote.Ref.{Bor}
use Rattle.std.specs.Fn.{CalledAt}
use Rattle.std.specs.Option.{option_map}
use Rattle.std.specs.Range.{range_inclusive_start, range_inclusive_end, range_inclusive_exhausted}
use Rattle.std.specs.declared.ops.RangeInclusive.{RangeInclusive}
use Rattle.std.specs.Iterator.Runs.{Run, ItemsCountUp, SomeRun, NoItemPasses, EndsAtFirstPassing, CallKeepsClosure}
use Rattle.fault.specs.Firsts.{First}
use Rattle.std.proofs.iter.runs.Sources.{nat_range_inclusive_steps, inclusive_listed}

-- what holds of an item that is there
pub if_at : (o : Option ℕ) (n : ℕ) (Q : ℕ → Type 0) → option_map (λ y. y) o ≡ Some n → IfSome o Q → Q n
if_at None n Q e h = absurd cc
if_at (Some x) n Q e h = let same : x ≡ n = cc in subst Q same h

pub and_at : (o : Option ℕ) (n : ℕ) (Q : ℕ → Type 0) → option_map (λ y. y) o ≡ Some n → IsSomeAnd o Q → Q n
and_at None n Q e h = absurd h
and_at (Some x) n Q e h = let same : x ≡ n = cc in subst Q same h

module _ {F : Type 0} (g : Mut F (Bor ℕ × Unit {0}) Bool) (s : RangeInclusive ℕ) (n : ℕ) (f : F) (P : ℕ → Type 0)
    (start : range_inclusive_start s ≡ 0) (end : range_inclusive_end s ≡ n) (fresh : range_inclusive_exhausted s ≡ false)
    (keeps : CallKeepsClosure g f) (yes : (x : ℕ) → CalledAt g f x true f → P x) (no : (x : ℕ) → CalledAt g f x false f → P x → ⊥)
  where
    -- the numbers of a run
    counts : (u : Run nat_range_inclusive_steps) → u.from ≡ s → ItemsCountUp u 0 (n + 1)
    counts u from =
        let (a, b, ea, eb, count) = inclusive_listed u u.seen in
        let first : a ≡ 0 = ea ∙ ap range_inclusive_start from ∙ start in
        let last : b ≡ n + 1 = eb ∙ ap (λ t. range_inclusive_end t + 1) from ∙ ap (λ k. k + 1) end in
        rw (← first, ← last) (count (ap range_inclusive_exhausted from ∙ fresh)).0

    pub first_to : (r : Option ℕ)
        → SomeRun nat_range_inclusive_steps s (λ u. MatchOption r (IsTrue u.whole × NoItemPasses u g f) (EndsAtFirstPassing u g f))
        → MatchOption r ((k : ℕ) → k ≤ n → P k → ⊥) (λ i. (i ≤ n) × First ◌<◌ P i)
    first_to None (u, from, (whole, none)) = λ k most.
        let up = counts u from in
        let all : u.len ≡ n + 1 - 0 = up.1 (search rules) in
        no k (if_at _ k (λ x. CalledAt g f x false f) (up.3 k (omega arith) ∙ ap Some (zero-add k)) (none keeps k))
    first_to (Some x) (u, from, (i, len, here, calls)) =
        let up = counts u from in
        let (passed, below) = calls keeps in
        let (x_is, x_low) = if_at (u.at i) x (λ y. (y ≡ 0 + i) × (y < n + 1)) (ap (option_map (λ y. y)) here) (up.2 i) in (
          omega arith,
          (yes x passed, λ k before. no k (and_at _ k (λ y. CalledAt g f y false f) (up.3 k (omega arith) ∙ ap Some (zero-add k)) (below k (omega arith)))),
        )
