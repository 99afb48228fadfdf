-- What starts on each visit.
use Rattle.std.proofs.Common.{◌≡◌, ℕ, ◌+◌, ◌-◌, ◌<◌, ◌≤◌, cond, List, ◌++◌, length, get_or, take, drop, replicate, refl, sym, ◌∙◌, ⊎_elim, arith}
use Rattle.std.proofs.lemmas.List.{get_or_past, get_or-append_right, get_or-drop, get_or-replicate, length-replicate, length-take}
use Rattle.std.proofs.lemmas.List.FromFn.{length-map-range_with_len, get_or-map-range_with_len}
use Rattle.std.proofs.lemmas.Bool.{cases_lt}
use Rattle.walk.specs.declared.visit.Visit.{Visit}
use Rattle.walk.specs.Edges.{visit, is_start}
use Rattle.graph.specs.Inputs.{starts_in}
use Rattle.graph.specs.Figures.{starts}

module _ {K : Type 0} (blank : K) (start : Visit → K) (vs : List Visit) where
  abbrev own : ℕ → K
  own v = cond (is_start vs v) (start (visit vs v)) blank

  pub starts_at : (v : ℕ) → v < length vs → starts_in blank (starts blank start vs) v ≡ cond (is_start vs v) (start (visit vs v)) blank
  starts_at v h = get_or-map-range_with_len own 0 (length vs) v v blank h (omega arith)

  -- nothing past the last visit
  pub starts_past : (v : ℕ) → length vs ≤ v → starts_in blank (starts blank start vs) v ≡ blank
  starts_past v h = get_or_past (starts blank start vs) v blank (omega (arith, length-map-range_with_len own 0 (length vs)))

  pub start_is : (v : ℕ) (x : K) → (v < length vs → x ≡ cond (is_start vs v) (start (visit vs v)) blank) → (length vs ≤ v → x ≡ blank)
      → x ≡ starts_in blank (starts blank start vs) v
  start_is v x there past =
      ⊎_elim (λ h. there h ∙ sym (starts_at v h)) (λ h. past h ∙ sym (starts_past v h)) (cases_lt v (length vs))

-- past some values that were written over the front of a list of blanks there are blanks
pub untouched : {K : Type 0} (xs : List K) (n m : ℕ) (z blank : K) (v : ℕ) → z ≡ blank → length xs ≤ v → get_or (xs ++ drop n (replicate m z)) v blank ≡ blank
untouched xs n m z blank v e h =
    get_or-append_right xs (drop n (replicate m z)) (length xs) v blank refl h ∙ get_or-drop n (replicate m z) (v - length xs) blank ∙ none (n + (v - length xs))
  where
    none : (x : ℕ) → get_or (replicate m z) x blank ≡ blank
    none x = ⊎_elim (λ l. get_or-replicate m x z blank l ∙ e) (λ l. get_or_past (replicate m z) x blank (omega (arith, length-replicate m z))) (cases_lt x m)

pub front_few : {K : Type 0} (xs : List K) (n : ℕ) (whole : List K) (v : ℕ) → length xs ≡ length (take n whole) → n ≤ v → length xs ≤ v
front_few xs n whole v e h = omega (arith, e, length-take n whole)
