-- Arrays whose items a closure gives, called with each index in turn.
use Rattle.std.proofs.Common.{◌≡◌, ℕ, zero, suc, ◌+◌, ◌<◌, ◌≤◌, List, map, get_or, sym, ap, ◌∙◌, subst, ⊎_elim, arith}
use denote.Param.Members.{Mut}
use Rattle.std.specs.Fn.{Called}
use Rattle.std.specs.List.{range_with_len}
use Rattle.std.specs.Array.{IsFromFnResultFrom, IsFromFnResult}
use Rattle.std.proofs.lemmas.Bool.{cases_eq, cases_lt}
use Rattle.std.proofs.lemmas.List.{get_or_past}
use Rattle.std.proofs.lemmas.List.FromFn.{fill_by_all}

module _ {F B : Type 0} (g : Mut F (ℕ × Unit {0}) B) (h : ℕ → B) (f : F) (n : ℕ)
    (gives : (i : ℕ) (y : B) (q : F) → i < n → Called g f (i, tt) y q → (q ≡ f) × (y ≡ h i)) (ys : List B) (d : B) where
  from : (i m : ℕ) → i + m ≡ n → IsFromFnResultFrom g f ys i m → (k : ℕ) → i ≤ k → k < n → get_or ys k d ≡ h k
  from i zero e r k l u = absurd (omega arith)
  from i (suc m) e (q, y, at, called, rest) k l u =
      let (same, is) = gives i y q (omega arith) called in
      let later : IsFromFnResultFrom g f ys (i + 1) m = subst (λ p. IsFromFnResultFrom g p ys (i + 1) m) same rest in
      ⊎_elim (λ e. ap (λ j. get_or ys j d) (sym e) ∙ at.1 d ∙ is ∙ ap h e) (λ ne. from (i + 1) m (omega arith) later k (omega arith) u) (cases_eq i k)

  -- an array that a closure gave by h has h of each index
  pub filled : IsFromFnResult g f ys n → (k : ℕ) → k < n → get_or ys k d ≡ h k
  filled r k l = from 0 n (omega arith) r.each k (omega arith) l

  -- as a list
  pub filled_list : IsFromFnResult g f ys n → ys ≡ map h (range_with_len 0 n)
  filled_list r = fill_by_all h ys n d r.long (filled r)

  -- read with what h gives past its end, it is h
  pub filled_whole : IsFromFnResult g f ys n → ((k : ℕ) → n ≤ k → h k ≡ d) → (λ k. get_or ys k d) ≡ h
  filled_whole r past = λ i k. at k i
    where
      at : (k : ℕ) → get_or ys k d ≡ h k
      at k = ⊎_elim (filled r k) (λ l. get_or_past ys k d (omega (arith, r.long)) ∙ sym (past k l)) (cases_lt k n)
