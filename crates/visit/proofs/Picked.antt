-- Lists that grow with a number: the items of the places below it that pass a test, and the lists of all places below it.
use Rattle.std.proofs.Common.{◌≡◌, ℕ, zero, suc, ◌+◌, ◌<◌, ◌≤◌, Bool, true, false, cond, List, [], ◌∷◌, ◌++◌, map, length, filter, sym, ap, ◌∙◌, ⊎_elim, add-one, arith}
use Rattle.std.specs.List.{range_with_len, flat_map}
use Rattle.std.proofs.lemmas.List.{map-append, append-nil, append_assoc, length-append, length_push}
use Rattle.std.proofs.lemmas.List.Elements.{filter-append}
use Rattle.std.proofs.lemmas.Bool.{cases_lt}
use Rattle.fixed.proofs.Counting.{counting_more, joined_counting}

-- what never falls from one number to the next never falls
rises : (f : ℕ → ℕ) → ((k : ℕ) → f k ≤ f (k + 1)) → (m n : ℕ) → m ≤ n → f m ≤ f n
rises f up m zero h = let e : m ≡ 0 = omega arith in omega (arith, ap f e)
rises f up m (suc n) h =
    ⊎_elim (λ l. omega (arith, rises f up m n (omega arith), up n, ap f (add-one n)))
    (λ l. let e : m ≡ suc n = omega arith in omega (arith, ap f e))
    (cases_lt m (suc n))

-- the items of the places below n that pass p
abbrev pub picked : {X : Type 0} → (ℕ → X) → (ℕ → Bool) → ℕ → List X
picked f p n = map f (filter p (range_with_len 0 n))

module _ {X : Type 0} (f : ℕ → X) (p : ℕ → Bool) where
  picked_more : (n : ℕ) → picked f p (n + 1) ≡ picked f p n ++ map f (cond (p n) (n ∷ []) [])
  picked_more n =
      ap (λ l. map f (filter p l)) (counting_more n) ∙ ap (map f) (filter-append p (range_with_len 0 n) (n ∷ []))
      ∙ map-append f (filter p (range_with_len 0 n)) (cond (p n) (n ∷ []) [])

  pub picked_yes : (n : ℕ) → p n ≡ true → picked f p (n + 1) ≡ picked f p n ++ f n ∷ []
  picked_yes n e = picked_more n ∙ ap (λ b. picked f p n ++ map f (cond b (n ∷ []) [])) e

  pub picked_no : (n : ℕ) → p n ≡ false → picked f p (n + 1) ≡ picked f p n
  picked_no n e = picked_more n ∙ ap (λ b. picked f p n ++ map f (cond b (n ∷ []) [])) e ∙ append-nil _

  pub picked_rises : (m n : ℕ) → m ≤ n → length (picked f p m) ≤ length (picked f p n)
  picked_rises =
      rises (λ n. length (picked f p n))
      (λ n. omega (arith, ap length (picked_more n), length-append (picked f p n) (map f (cond (p n) (n ∷ []) []))))

  -- a turn of a loop that adds them to a list one by one
  pub adds_yes : (old xs ys : List X) (n : ℕ)
      → xs ≡ old ++ picked f p n → p n ≡ true → ys ≡ xs ++ f n ∷ [] → ys ≡ old ++ picked f p (n + 1)
  adds_yes old xs ys n before e more =
      more ∙ ap (λ l. l ++ f n ∷ []) before ∙ append_assoc old (picked f p n) (f n ∷ [])
      ∙ ap (λ l. old ++ l) (sym (picked_yes n e))

  pub adds_no : (old xs ys : List X) (n : ℕ)
      → xs ≡ old ++ picked f p n → p n ≡ false → ys ≡ xs → ys ≡ old ++ picked f p (n + 1)
  adds_no old xs ys n before e same = same ∙ before ∙ ap (λ l. old ++ l) (sym (picked_no n e))

  -- a place that passes makes the list longer
  pub picked_grows : (m n : ℕ) → m < n → p m ≡ true → length (picked f p m) < length (picked f p n)
  picked_grows m n h e =
      omega (arith, ap length (picked_yes m e), length_push (picked f p m) (f m), picked_rises (m + 1) n (omega arith))

-- the lists of the places below n, one after another
module _ {X : Type 0} (f : ℕ → List X) where
  pub joined_rises : (m n : ℕ) → m ≤ n → length (flat_map f (range_with_len 0 m)) ≤ length (flat_map f (range_with_len 0 n))
  joined_rises =
      rises (λ n. length (flat_map f (range_with_len 0 n)))
      (λ n. omega (arith, ap length (joined_counting f n), length-append (flat_map f (range_with_len 0 n)) (f n)))
