-- A path cut where its cell changes: it has as many visits as parts.
use Rattle.std.proofs.Common.{◌≡◌, ℕ, zero, suc, ◌+◌, ◌-◌, ◌<◌, ◌≤◌, true, false, not, ◌==◌, List, [], ◌∷◌, ◌++◌, map, length, slice_index_or, slice_get, Some, None, Option, IfSome, IsSomeAnd, MatchOption, sym, refl, ap, ◌∙◌, subst, add-zero, zero-add, arith}
use denote.Ref.{Bor}
use Rattle.std.specs.List.{AllAdjacentBelow, flat_map}
use Rattle.std.specs.Iterator.Runs.{Run, AllItems}
use Rattle.std.proofs.iter.runs.Made.{at-is}
use Rattle.std.proofs.lemmas.Bool.{eq-eqb, ne_eqb, eqb-true, eqb-false}
use Rattle.std.proofs.lemmas.List.{append-nil, append_assoc, map-append}
use Rattle.record.specs.declared.entry.Entry.{Entry}
use Rattle.record.specs.Entries.{no_entry}
use Rattle.record.specs.Steps.{visit_count}
use Rattle.record.proofs.Visits.{Last, Enters, last_more, visits_more}

abbrev cells : List Entry → List ℕ
cells es = map (λ e. e.cell) es

-- entries in the cell that the path has reached are no visits
stays : (c : ℕ) (es : List Entry) (r : List ℕ) → Last r (Some c)
    → ((k : ℕ) (d : Entry) → k < length es → (slice_index_or es k d).cell ≡ c)
    → (visit_count (r ++ cells es) ≡ visit_count r) × Last (r ++ cells es) (Some c)
stays c [] r last same = (ap visit_count (append-nil r), rw (append-nil r) last)
stays c (e ∷ es) r last same =
    let here : e.cell ≡ c = same 0 e (omega arith) in
    let more = visits_more r e.cell (Some c) false last (ap not (sym (eq-eqb c e.cell (sym here)))) in
    let rest = stays e.cell es (r ++ e.cell ∷ []) (last_more r e.cell) (λ k d l. same (suc k) d (omega arith) ∙ sym here) in
    let cut : (r ++ e.cell ∷ []) ++ cells es ≡ r ++ e.cell ∷ cells es = append_assoc r (e.cell ∷ []) (cells es) in
    (ap visit_count (sym cut) ∙ rest.0 ∙ more ∙ add-zero _, subst (λ (p : List ℕ × ℕ). Last p.0 (Some p.1)) (λ i. (cut i, here i)) rest.1)

-- so it is in a part that has one cell throughout
abbrev OneCell : List Entry → Type 0
OneCell es = AllAdjacentBelow (λ y z. (y.cell == z.cell) ≡ true) es (length es)

one_cell : (e : Entry) (es : List Entry) → OneCell (e ∷ es) → (k : ℕ) (d : Entry) → k < length es → (slice_index_or es k d).cell ≡ e.cell
one_cell e es all zero d h = sym (eqb-true _ _ (all 0 d (omega arith)))
one_cell e es all (suc k) d h =
    let next : suc k + 1 ≡ suc (suc k) = omega arith in
    let beside = subst (λ n. ((slice_index_or es k d).cell == (slice_index_or (e ∷ es) n d).cell) ≡ true) next (all (suc k) d (omega arith)) in
    sym (eqb-true _ _ beside) ∙ one_cell e es all k d (omega arith)

ends : (e : Entry) (es : List Entry) → OneCell (e ∷ es) → (d : Entry) → (slice_index_or (e ∷ es) (length (e ∷ es) - 1) d).cell ≡ e.cell
ends e [] all d = refl
ends e (f ∷ fs) all d =
    let last : length (e ∷ f ∷ fs) - 1 ≡ suc (length fs) = omega arith in
    ap (λ k. (slice_index_or (e ∷ f ∷ fs) k d).cell) last ∙ one_cell e (f ∷ fs) all (length fs) d (omega arith)

-- a part that is entered is one visit
part_counts : (es : List Entry) (r : List ℕ) (o : Option ℕ) → Last r o → 0 < length es → OneCell es
    → MatchOption o (Unit {0}) (λ before. before ≡ (slice_index_or es 0 no_entry).cell → ⊥)
    → (visit_count (r ++ cells es) ≡ visit_count r + 1) × ((d : Entry) → Last (r ++ cells es) (Some (slice_index_or es (length es - 1) d).cell))
part_counts [] r o last some all enters = absurd (omega arith)
part_counts (e ∷ es) r o last some all enters =
    let more = visits_more r e.cell o true last (entered o enters) in
    let rest = stays e.cell es (r ++ e.cell ∷ []) (last_more r e.cell) (one_cell e es all) in
    let cut : (r ++ e.cell ∷ []) ++ cells es ≡ r ++ e.cell ∷ cells es = append_assoc r (e.cell ∷ []) (cells es) in
    (ap visit_count (sym cut) ∙ rest.0 ∙ more, λ d. subst (λ (p : List ℕ × ℕ). Last p.0 (Some p.1)) (λ i. (cut i, sym (ends e es all d) i)) rest.1)
  where
    entered : (o : Option ℕ) → MatchOption o (Unit {0}) (λ before. before ≡ e.cell → ⊥) → Enters o e.cell true
    entered None u = refl
    entered (Some before) other = ap not (sym (ne_eqb before e.cell other))

-- the cell changes between two parts
abbrev Changes : List Entry → List Entry → Type 0
Changes x y = (d : Entry) → (slice_index_or x (length x - 1) d).cell == (slice_index_or y 0 d).cell ≡ false

-- what the parts of a path are like
module _ (items : List (Bor (List Entry))) where
  abbrev Cut : Type 0
  Cut = ((k : ℕ) → IfSome (slice_get items k) (λ x. 0 < length x.now)) × ((k : ℕ) → IfSome (slice_get items k) (λ x. OneCell x.now))
      × ((k : ℕ) → IfSome (slice_get items (suc k)) (λ y. IsSomeAnd (slice_get items k) (λ x. Changes x.now y.now)))

  abbrev StartsAnew : Option ℕ → Type 0
  StartsAnew o = IfSome (slice_get items 0) (λ y. MatchOption o (Unit {0}) (λ before. before ≡ (slice_index_or y.now 0 no_entry).cell → ⊥))

anew_after : (x : List Entry) (next : Option (Bor (List Entry)))
    → IfSome next (λ y. Changes x y.now)
    → IfSome next (λ y. (slice_index_or x (length x - 1) no_entry).cell ≡ (slice_index_or y.now 0 no_entry).cell → ⊥)
anew_after x None h = tt
anew_after x (Some y) h = eqb-false _ _ (h no_entry)

none_before : (next : Option (Bor (List Entry))) → IfSome next (λ y. Unit {0})
none_before None = tt
none_before (Some y) = tt

counted : (items : List (Bor (List Entry))) (r : List ℕ) (o : Option ℕ) → Last r o → Cut items → StartsAnew items o
    → visit_count (r ++ cells (flat_map (λ x. x.now) items)) ≡ visit_count r + length items
counted [] r o last cut anew = ap visit_count (append-nil r) ∙ sym (add-zero _)
counted (x ∷ xs) r o last (some, all, between) anew =
    let (here, end) = part_counts x.now r o last (some zero) (all zero) anew in
    let next =
    counted xs (r ++ cells x.now) (Some (slice_index_or x.now (length x.now - 1) no_entry).cell) (end no_entry)
    ((λ k. some (suc k)), (λ k. all (suc k)), (λ k. between (suc k))) (anew_after x.now (slice_get xs 0) (between zero)) in
    let join : (r ++ cells x.now) ++ cells (flat_map (λ x. x.now) xs) ≡ r ++ cells (x.now ++ flat_map (λ x. x.now) xs) =
    append_assoc r (cells x.now) _ ∙ ap (λ l. r ++ l) (sym (map-append {A = Entry} (λ e. e.cell) x.now (flat_map (λ x. x.now) xs))) in
    let one_more : visit_count (r ++ cells x.now) + length xs ≡ visit_count r + length (x ∷ xs) = omega (arith, here) in
    ap visit_count (sym join) ∙ next ∙ one_more

pub visits_are_parts : (items : List (Bor (List Entry))) (path : List Entry) → Cut items → path ≡ flat_map (λ x. x.now) items
    → length items ≡ visit_count (cells path)
visits_are_parts items path cut e = sym (ap (λ l. visit_count (cells l)) e ∙ counted items [] None refl cut (none_before (slice_get items 0)) ∙ zero-add _)

-- what `chunk_by` says of its items
module _ {S : Type 0} {steps : S → Option (Bor (List Entry)) → S → Type 0} (p : Run steps) (n : ℕ) where
  pub parts : AllItems p (λ x. (0 < length x.now) × (length x.now ≤ n)) → AllItems p (λ x. OneCell x.now)
      → ((k : ℕ) → 0 < k → IfSome (p.at k) (λ y. IsSomeAnd (p.at (k - 1)) (λ x. Changes x.now y.now)))
      → Cut p.items
  parts some all between = (
    λ k. first (slice_get p.items k) (at k (λ x. (0 < length x.now) × (length x.now ≤ n)) (some k)),
    λ k. at k (λ x. OneCell x.now) (all k),
    λ k.
        let here : p.at (suc k - 1) ≡ slice_get p.items k = ap p.at (omega arith) ∙ at-is p k in
        subst (λ (o : Option (Bor (List Entry)) × Option (Bor (List Entry))). IfSome o.0 (λ y. IsSomeAnd o.1 (λ x. Changes x.now y.now)))
        (λ i. (at-is p (suc k) i, here i)) (between (suc k) (omega arith)),
  )
    where
      at : (k : ℕ) (P : Bor (List Entry) → Type 0) → IfSome (p.at k) P → IfSome (slice_get p.items k) P
      at k P h = subst (λ o. IfSome o P) (at-is p k) h

      first : (o : Option (Bor (List Entry))) → IfSome o (λ x. (0 < length x.now) × (length x.now ≤ n)) → IfSome o (λ x. 0 < length x.now)
      first None h = tt
      first (Some x) h = h.0
