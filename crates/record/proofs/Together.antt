-- A carrier's entries lie together.
use Rattle.std.proofs.Common.{◌≡◌, ℕ, zero, suc, ◌+◌, ◌-◌, ◌<◌, ◌≤◌, Bool, true, false, ◌==◌, nat_lt, List, [], ◌∷◌, ◌++◌, length, slice_index_or, filter, take, drop, sym, refl, ap, ◌∙◌, add-zero, inl, ⊎_elim, arith}
use Rattle.std.proofs.lemmas.List.{append-nil, get_or-take, get_or-drop, get_or_default, length-take-le, length-drop, take-append-drop}
use Rattle.std.proofs.lemmas.List.Elements.{filter-append}
use Rattle.std.proofs.lemmas.Bool.{cases_lt, ltb-true, ltb-false, lt-ltb, eqb-true, eq-eqb, ne_eqb}
use Rattle.std.specs.List.{AllWithin}
use Rattle.std.specs.List.Sorted.{IsNonDecreasingBy, IsPartitionedBy, IsPartitionPoint}
use Rattle.fault.specs.declared.kinds.Flaw.TheVariants.{Carrier}
use Rattle.record.specs.declared.entry.Entry.{Entry}
use Rattle.record.specs.Layout.{Draft}
use Rattle.record.specs.Entries.{no_entry, entry, FollowsOn, Sound}

module _ {X : Type 0} (p : X → Bool) where
  pub filter_none : (xs : List X) → AllWithin (λ x. p x ≡ false) xs 0 (length xs) → filter p xs ≡ []
  filter_none [] h = refl
  filter_none (x ∷ xs) h = rw (h 0 x (omega arith) (omega arith)) (filter_none xs (λ k d l u. h (suc k) d (omega arith) (omega arith)))

  filter_whole : (xs : List X) → AllWithin (λ x. p x ≡ true) xs 0 (length xs) → filter p xs ≡ xs
  filter_whole [] h = refl
  filter_whole (x ∷ xs) h = rw (h 0 x (omega arith) (omega arith)) (ap (λ l. x ∷ l) (filter_whole xs (λ k d l u. h (suc k) d (omega arith) (omega arith))))

  -- elements that pass at first, and then none that does
  filter_front : (xs : List X) (i : ℕ) → i ≤ length xs → IsPartitionPoint (λ x. p x ≡ true) (λ x. p x ≡ false) xs i → filter p xs ≡ take i xs
  filter_front xs i within (before, after) =
      let n : length (take i xs) ≡ i = length-take-le i xs within in
      ap (filter p) (sym (take-append-drop i xs)) ∙ filter-append p (take i xs) (drop i xs)
      ∙ (λ j.
      filter_whole (take i xs) (λ k d l u. rw (get_or-take i xs k d (omega arith)) (before k d l (omega arith))) j
      ++ filter_none (drop i xs) (λ k d l u. rw (get_or-drop i xs k d) (after (i + k) d (omega arith) (omega (arith, length-drop i xs)))) j)
      ∙ append-nil _

-- carrier numbers never fall
module _ (d : Draft) (sound : Sound d) where
  next : (k : ℕ) → k + 1 < length d.entries → (entry d.entries k).carrier ≤ (entry d.entries (k + 1)).carrier
  next k h = ⊎_elim (λ l. absurd (sound Carrier (k + 1) (inl (h, inl (falls l))))) (λ l. l) (cases_lt (entry d.entries (k + 1)).carrier (entry d.entries k).carrier)
    where
      falls : (entry d.entries (k + 1)).carrier < (entry d.entries k).carrier → FollowsOn d.entries (k + 1) → ⊥
      falls l f =
          let here : k + 1 - 1 ≡ k = omega arith in
          let before = ap (λ n. (entry d.entries n).carrier) here in
          ⊎_elim (λ e. omega arith) (λ e. omega arith) (f.1 (omega arith))

  from_on : (i n : ℕ) → i + n < length d.entries → (entry d.entries i).carrier ≤ (entry d.entries (i + n)).carrier
  from_on i zero h = rw (add-zero i) (omega arith)
  from_on i (suc n) h =
      let same : i + suc n ≡ i + n + 1 = omega arith in
      rw same (omega (arith, from_on i n (omega arith), next (i + n) (omega arith)))

  pub rising : IsNonDecreasingBy (λ e. e.carrier) d.entries
  rising i j e le within =
      let there : i + (j - i) ≡ j = omega arith in
      let up : (entry d.entries i).carrier ≤ (entry d.entries j).carrier = rw there at (from_on i (j - i) (omega arith)) in
      rw (get_or_default d.entries i e no_entry (omega arith), get_or_default d.entries j e no_entry within) up

module _ (es : List Entry) (c : ℕ) (rises : IsNonDecreasingBy (λ e. e.carrier) es) where
  below : Entry → Bool
  below e = nat_lt e.carrier c

  own : Entry → Bool
  own e = e.carrier == c

  pub below_parted : IsPartitionedBy (λ e. nat_lt e.carrier c) es
  below_parted i j d le within h = lt-ltb _ _ (omega (arith, ltb-true _ _ h, rises i j d le within))

  module _ (s : ℕ) (most : s ≤ length es)
      (starts : IsPartitionPoint (λ e. nat_lt e.carrier c ≡ true) (λ e. nat_lt e.carrier c ≡ false) es s) (rest : List Entry)
      (is : rest ≡ drop s es) where
    at : (k : ℕ) (d : Entry) → slice_index_or rest k d ≡ slice_index_or es (s + k) d
    at k d = ap (λ l. slice_index_or l k d) is ∙ get_or-drop s es k d

    long : length rest + s ≡ length es
    long = omega (arith, ap length is, length-drop s es)

    pub own_parted : IsPartitionedBy (λ e. e.carrier == c) rest
    own_parted i j d le within h =
        rw (at i d)
        (eq-eqb _ _ (omega (
          arith,
          ltb-false _ _ (starts.1 (s + i) d (omega arith) (omega (arith, long))),
          rises (s + i) (s + j) d (omega arith) (omega (arith, long)),
          eqb-true _ _ (rw (at j d) at h),
        )))

    early : (k : ℕ) (d : Entry) → k < s → (slice_index_or (take s es) k d).carrier == c ≡ false
    early k d h = rw (get_or-take s es k d h) (ne_eqb _ _ (λ e. omega (arith, ltb-true _ _ (starts.0 k d (omega arith) h))))

    pub together : (n : ℕ) → n ≤ length rest
        → IsPartitionPoint (λ e. (e.carrier == c) ≡ true) (λ e. (e.carrier == c) ≡ false) rest n
        → take n rest ≡ filter (λ e. e.carrier == c) es
    together n within ends =
        let none : filter (λ e. e.carrier == c) (take s es) ≡ [] = filter_none (λ (e : Entry). e.carrier == c) (take s es) (λ k d l u. early k d (omega (arith, length-take-le s es most))) in
        sym (
        ap (filter (λ e. e.carrier == c)) (sym (take-append-drop s es)) ∙ filter-append (λ (e : Entry). e.carrier == c) (take s es) (drop s es)
        ∙ (λ i. none i ++ filter (λ (e : Entry). e.carrier == c) (sym is i)) ∙ filter_front (λ (e : Entry). e.carrier == c) rest n within ends
        )
