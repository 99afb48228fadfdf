-- How many visits there are.
use Rattle.std.proofs.Common.{◌≡◌, ℕ, zero, suc, ◌+◌, ◌≤◌, Bool, cond, eqb, ltb, List, [], ◌∷◌, length, sum_by, count_by, filter, refl, ap, ◌∙◌, subst, add-one, arith}
use Rattle.std.specs.List.{range_with_len}
use Rattle.std.proofs.lemmas.List.{length-append, length-map}
use Rattle.std.proofs.lemmas.List.Concat.{length-flat_map}
use Rattle.std.proofs.lemmas.List.Sums.{length-filter, count_by-le-length, sum_by-cons}
use Rattle.std.proofs.lemmas.List.FromFn.{length-range_with_len}
use Rattle.std.proofs.lemmas.Bool.Decides.{nat_tests}
use Rattle.record.specs.declared.entry.Entry.{Entry}
use Rattle.record.specs.Steps.{path, visit_at, visit_count}
use Rattle.visit.specs.Visits.{visit_of, carrier_visits, first_visits}
use Rattle.fixed.proofs.Counting.{joined_counting}
use Rattle.visit.proofs.Picked.{joined_rises}

-- the visits of a carrier are as many as record counts on its path
pub carrier_count : (es : List Entry) (i : ℕ) → length (carrier_visits es i) ≡ visit_count (path es i)
carrier_count es i = length-map _ (visit_of i (path es i)) ∙ length-filter (visit_at (path es i)) (range_with_len 0 (length (path es i)))

-- more carriers make no fewer visits
pub visits_rise : (es : List Entry) (m n : ℕ) → m ≤ n → length (first_visits es m) ≤ length (first_visits es n)
visits_rise es = joined_rises (carrier_visits es)

-- a carrier's visits are at most its entries
carrier_few : (es : List Entry) (i : ℕ) → length (carrier_visits es i) ≤ count_by (λ e. eqb e.carrier i) es
carrier_few es i =
    let own : Entry → Bool = λ e. eqb e.carrier i in
    let r : List ℕ = path es i in
    omega (
      arith,
      carrier_count es i,
      count_by-le-length (visit_at r) (range_with_len 0 (length r)),
      length-range_with_len 0 (length r),
      length-map (filter own es) (λ e. e.cell),
      length-filter own es,
    )

one_more : (a n : ℕ) → cond (ltb a n) 1 0 + cond (eqb a n) 1 0 ≡ cond (ltb a (n + 1)) 1 0
one_more a n = grind (arith, nat_tests)

-- entries of carriers below n + 1 are those of carriers below n and those of n
below_more : (es : List Entry) (n : ℕ)
    → count_by (λ e. ltb e.carrier n) es + count_by (λ e. eqb e.carrier n) es ≡ count_by (λ e. ltb e.carrier (n + 1)) es
below_more [] n = refl
below_more (e ∷ es) n =
    omega (
      arith,
      below_more es n,
      one_more e.carrier n,
      sum_by-cons (λ e. cond (ltb e.carrier n) 1 0) e es,
      sum_by-cons (λ e. cond (eqb e.carrier n) 1 0) e es,
      sum_by-cons (λ e. cond (ltb e.carrier (n + 1)) 1 0) e es,
    )

below_few : (es : List Entry) (n : ℕ) → length (first_visits es n) ≤ count_by (λ e. ltb e.carrier n) es
below_few es zero = omega arith
below_few es (suc n) =
    let Few : ℕ → Type 0 = λ m. length (first_visits es m) ≤ count_by (λ e. ltb e.carrier m) es in
    subst Few (add-one n)
    (omega (
      arith,
      below_few es n,
      carrier_few es n,
      below_more es n,
      ap length (joined_counting (carrier_visits es) n),
      length-append (first_visits es n) (carrier_visits es n),
    ))

-- the visits of the first carriers are no more than all entries
pub visits_few : (es : List Entry) (n : ℕ) → length (first_visits es n) ≤ length es
visits_few es n = omega (arith, below_few es n, count_by-le-length (λ e. ltb e.carrier n) es)

-- one carrier's visits after those of the carriers before it are no more either
pub visits_fit : (es : List Entry) (i : ℕ) → length (first_visits es i) + length (carrier_visits es i) ≤ length es
visits_fit es i =
    omega (
      arith,
      visits_few es (i + 1),
      ap length (joined_counting (carrier_visits es) i),
      length-append (first_visits es i) (carrier_visits es i),
    )

-- one carrier more
pub first_more : (es : List Entry) (n : ℕ) → length (first_visits es (n + 1)) ≡ length (first_visits es n) + length (carrier_visits es n)
first_more es n = ap length (joined_counting (carrier_visits es) n) ∙ length-append (first_visits es n) (carrier_visits es n)

-- the visits of the first carriers, counted carrier by carrier
pub count_visits : (es : List Entry) (n : ℕ) → length (first_visits es n) ≡ sum_by (λ i. visit_count (path es i)) (range_with_len 0 n)
count_visits es n =
    length-flat_map (carrier_visits es) (range_with_len 0 n)
    ∙ (λ j. sum_by (λ i. carrier_count es i j) (range_with_len 0 n))
