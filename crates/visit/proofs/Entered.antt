-- A carrier's entries as visits.
use Rattle.std.proofs.Common.{◌≡◌, ℕ, ◌<◌, Bool, true, eqb, List, get_or, map, length, filter, sym, ap, ◌∙◌, subst}
use Rattle.std.proofs.lemmas.List.Elements.{All-get_or, filter_passes}
use Rattle.std.proofs.lemmas.Bool.{eqb-true}
use Rattle.std.proofs.lemmas.List.{length-map, get_or-map}
use Rattle.record.specs.declared.entry.Entry.{Entry}
use Rattle.record.specs.Steps.{path, visit_at}
use Rattle.visit.specs.Visits.{visit_of}

-- the entries of carrier i, as record hands them out
module _ (es : List Entry) (i : ℕ) (mine : List Entry) (own : mine ≡ filter (λ e. eqb e.carrier i) es) where
  pub as_many : length mine ≡ length (path es i)
  as_many = sym (length-map mine (λ (e : Entry). e.cell)) ∙ ap (λ l. length (map (λ (e : Entry). e.cell) l)) own

  pub told : (n : ℕ) (b : Bool) → b ≡ visit_at (map (λ e. e.cell) mine) n → visit_at (path es i) n ≡ b
  told n b e = sym (e ∙ ap (λ (l : List Entry). visit_at (map (λ e. e.cell) l) n) own)

  pub as_visit : (n : ℕ) (d : Entry) → n < length mine
      → record { carrier = (get_or mine n d).carrier; cell = (get_or mine n d).cell; step = n } ≡ visit_of i (path es i) n
  as_visit n d h =
      let passes = subst (λ (l : List Entry). n < length l → eqb (get_or l n d).carrier i ≡ true) (sym own) (λ k. All-get_or (λ x. eqb x.carrier i ≡ true) (filter (λ e. eqb e.carrier i) es) n d k (filter_passes (λ x. eqb x.carrier i) es)) h in
      let there = sym (get_or-map (λ (x : Entry). x.cell) mine n d 0 h) ∙ ap (λ (l : List Entry). get_or (map (λ e. e.cell) l) n 0) own in
      λ j. record { carrier = eqb-true _ _ passes j; cell = there j; step = n }
