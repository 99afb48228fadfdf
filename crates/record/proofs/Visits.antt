-- The visits of a path, one entry after another.
use Rattle.std.proofs.Common.{◌≡◌, ℕ, zero, suc, ◌+◌, ◌-◌, ◌<◌, ◌≤◌, Bool, true, false, cond, not, ◌||◌, eqb, List, [], ◌∷◌, ◌++◌, length, get_or, Some, None, sum_by, count_by, Option, sym, refl, ap, ◌∙◌, arith, MatchOption}
use mir.Val.{bool_byte}
use Rattle.std.specs.List.{range_with_len}
use Rattle.std.proofs.lemmas.List.{length_push, get_or_push, get_or_append_left, map-id}
use Rattle.std.proofs.lemmas.List.FromFn.{sum_by-map-range_with_len_more}
use Rattle.std.proofs.lemmas.List.Sums.{sum_by-cons}
use Rattle.std.proofs.lemmas.Bool.{ne_eqb}
use Rattle.record.specs.Steps.{visit_at, visit_count}

abbrev one : Bool → ℕ
one b = cond b 1 0

one_is : (b : Bool) → one b ≡ bool_byte b
one_is true = refl
one_is false = refl

-- tests that agree count the same
count_same : (p q : ℕ → Bool) (a n : ℕ) → ((k : ℕ) → a ≤ k → k < a + n → p k ≡ q k) → count_by p (range_with_len a n) ≡ count_by q (range_with_len a n)
count_same p q a zero same = refl
count_same p q a (suc n) same =
    sum_by-cons (λ k. one (p k)) a (range_with_len (a + 1) n)
    ∙ (λ i. one (same a (omega arith) (omega arith) i) + count_same p q (a + 1) n (λ k l h. same k (omega arith) (omega arith)) i)
    ∙ sym (sum_by-cons (λ k. one (q k)) a (range_with_len (a + 1) n))

count_more : (p : ℕ → Bool) (n : ℕ) → count_by p (range_with_len 0 (n + 1)) ≡ count_by p (range_with_len 0 n) + one (p n)
count_more p n =
    let few : ℕ → ℕ = λ k. one (p k) in
    ap (sum_by few) (sym (map-id (range_with_len 0 (n + 1)))) ∙ sum_by-map-range_with_len_more few (λ k. k) 0 n n (omega arith)
    ∙ ap (λ l. sum_by few l + few n) (map-id (range_with_len 0 n))

-- the last cell of a path
abbrev pub Last : List ℕ → Option ℕ → Type 0
Last r None = r ≡ []
Last r (Some c) = (0 < length r) × (get_or r (length r - 1) 0 ≡ c)

pub last_more : (r : List ℕ) (c : ℕ) → Last (r ++ c ∷ []) (Some c)
last_more r c =
    let e : length (r ++ c ∷ []) - 1 ≡ length r = simp length_push (omega arith) in
    (simp length_push (omega arith), ap (λ k. get_or (r ++ c ∷ []) k 0) e ∙ get_or_push r c 0 (length r) refl)

-- whether the carrier enters the cell c anew
abbrev pub Enters : Option ℕ → ℕ → Bool → Type 0
Enters o c b = MatchOption o (b ≡ true) (λ before. b ≡ not (eqb before c))

module _ (r : List ℕ) (c : ℕ) where
  below_same : (k : ℕ) → 0 ≤ k → k < 0 + length r → visit_at (r ++ c ∷ []) k ≡ visit_at r k
  below_same k l h =
      λ i. eqb k 0 || not (eqb (get_or_append_left r (c ∷ []) 0 (k - 1) (omega arith) i) (get_or_append_left r (c ∷ []) 0 k (omega arith) i))

  -- the next cell is a visit exactly if it is entered anew
  pub visit_here : (o : Option ℕ) (b : Bool) → Last r o → Enters o c b → visit_at (r ++ c ∷ []) (length r) ≡ b
  visit_here None b e enters = ap (λ x. visit_at (x ++ c ∷ []) (length x)) e ∙ sym enters
  visit_here (Some before) b (some, e) enters =
      ap (λ t. t || not (eqb (get_or (r ++ c ∷ []) (length r - 1) 0) (get_or (r ++ c ∷ []) (length r) 0))) (ne_eqb (length r) 0 (λ z. omega arith))
      ∙ (λ i. not (eqb ((get_or_append_left r (c ∷ []) 0 (length r - 1) (omega arith) ∙ e) i) (get_or_push r c 0 (length r) refl i)))
      ∙ sym enters

  pub visits_more : (o : Option ℕ) (b : Bool) → Last r o → Enters o c b → visit_count (r ++ c ∷ []) ≡ visit_count r + bool_byte b
  visits_more o b last enters =
      ap (λ n. count_by (visit_at (r ++ c ∷ [])) (range_with_len 0 n)) (length_push r c)
      ∙ count_more (visit_at (r ++ c ∷ [])) (length r)
      ∙ (λ i. count_same (visit_at (r ++ c ∷ [])) (visit_at r) 0 (length r) below_same i + one (visit_here o b last enters i))
      ∙ ap (λ n. visit_count r + n) (one_is b)
