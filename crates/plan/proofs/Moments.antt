-- Conflicts at a step, and from the step on at which every carrier rests.
use Rattle.std.proofs.Common.{◌≡◌, ℕ, ◌+◌, ◌-◌, ◌<◌, ◌≤◌, min, length, get_or, slice_index, Some, None, Option, MatchOption, sym, refl, ap, ◌∙◌, subst, ⊎_elim, arith}
use Rattle.std.proofs.lemmas.List.FromFn.{get_or-map-range_with_len}
use Rattle.std.proofs.lemmas.Bool.{cases_lt}
use Rattle.fault.specs.declared.kinds.Conflict.{Conflict}
use Rattle.fault.specs.declared.kinds.Conflict.TheVariants.{Clash, Following}
use Rattle.fault.specs.declared.kinds.Meeting.{Meeting}
use Rattle.fault.specs.Firsts.{Sooner}
use Rattle.fault.specs.Firsts.Sooner.{by_step, by_first, by_second}
use Rattle.record.specs.Layout.{Draft}
use Rattle.record.specs.Steps.{path, cell}
use Rattle.record.proofs.Steps.{path_le}
use Rattle.plan.specs.declared.moment.Moment.{Moment}
use Rattle.plan.specs.Conflicts.{InConflict}
use Rattle.plan.specs.Searches.{IsMoment, Meets, LowestPair, FirstAt, Soonest}

-- what the cells of a moment show of two carriers
module _ (d : Draft) (few : d.carriers ≤ 16) (t : ℕ) (m : Moment) (shown : IsMoment d t m) where
  was : (i : ℕ) → i < d.carriers → slice_index m.earlier i ≡ cell d i (t - 1)
  was i h = ap (λ l. slice_index l i) shown.was ∙ get_or-map-range_with_len (λ k. cell d k (t - 1)) 0 16 i i 0 (omega arith) (omega arith)

  now : (i : ℕ) → i < d.carriers → slice_index m.later i ≡ cell d i t
  now i h = ap (λ l. slice_index l i) shown.is ∙ get_or-map-range_with_len (λ k. cell d k t) 0 16 i i 0 (omega arith) (omega arith)

  abbrev at : ℕ → ℕ → Meeting
  at i j = record { step = t; first = i; second = j }

  pub meets_so : (kind : Conflict) (i j : ℕ) → i < d.carriers → j < d.carriers → Meets kind m i j → InConflict d kind (at i j)
  meets_so Clash i j hi hj (l, e) = (l, hj, sym (now i hi) ∙ e ∙ now j hj)
  meets_so Following i j hi hj (n, e, moved) = (
    ⊎_elim (λ z. absurd (moved (still z))) (λ p. p) (cases_lt t 1),
    hi,
    hj,
    n,
    sym (now i hi) ∙ e ∙ was j hj,
    λ same. moved (now i hi ∙ same ∙ sym (was i hi)),
  )
    where
      still : t < 1 → slice_index m.later i ≡ slice_index m.earlier i
      still z = let e : t ≡ t - 1 = omega arith in now i hi ∙ ap (cell d i) e ∙ sym (was i hi)

  pub meets_then : (kind : Conflict) (i j : ℕ) → InConflict d kind (at i j) → (i < d.carriers) × (j < d.carriers) × Meets kind m i j
  meets_then Clash i j (l, hj, e) =
      let hi : i < d.carriers = omega arith in (hi, hj, (l, now i hi ∙ e ∙ sym (now j hj)))
  meets_then Following i j (p, hi, hj, n, e, moved) =
      (hi, hj, (n, now i hi ∙ e ∙ sym (was j hj), λ same. moved (sym (now i hi) ∙ same ∙ was i hi)))

  module _ (kind : Conflict) where
    moved : (n : Meeting) → n.step ≡ t → InConflict d kind n → InConflict d kind (at n.first n.second)
    moved n e c = subst (λ s. InConflict d kind (record { step = s; first = n.first; second = n.second })) e c

    pub none_here : LowestPair m.carriers (Meets kind m) None → FirstAt d kind t None
    none_here none n e c =
        let (hi, hj, met) = meets_then kind n.first n.second (moved n e c) in
        none n.first n.second (omega (arith, shown.all)) (omega (arith, shown.all)) met

    pub first_here : (i j : ℕ) → LowestPair m.carriers (Meets kind m) (Some (i, j)) → FirstAt d kind t (Some (at i j))
    first_here i j (hi, hj, (met, lower), none) = (refl, meets_so kind i j (omega (arith, shown.all)) (omega (arith, shown.all)) met, sooner)
      where
        sooner : (n : Meeting) → n.step ≡ t → Sooner n (at i j) → InConflict d kind n → ⊥
        sooner n e (by_step l) c = absurd (omega arith)
        sooner n e (by_first f l) c =
            let (a, b, x) = meets_then kind n.first n.second (moved n e c) in
            none n.first n.second l (omega (arith, shown.all)) x
        sooner n e (by_second f h l) c =
            let (a, b, x) = meets_then kind n.first n.second (moved n e c) in
            lower n.second l (subst (λ k. Meets kind m k n.second) h x)

module _ (d : Draft) where
  -- from the last step of every path on, nothing moves
  rests : (i s t : ℕ) → length d.entries ≤ s + 1 → s ≤ t → cell d i t ≡ cell d i s
  rests i s t h l =
      let r = path d.entries i in
      let e : min t (length r - 1) ≡ min s (length r - 1) = omega (arith, path_le d.entries i) in
      ap (λ k. get_or r k 0) e

  pub none_ever : (kind : Conflict) → 0 < length d.entries → ((m : Meeting) → m.step < length d.entries → InConflict d kind m → ⊥)
      → (m : Meeting) → InConflict d kind m → ⊥
  none_ever Clash some none m (l, h, e) = ⊎_elim (λ s. none m s (l, h, e)) late (cases_lt m.step (length d.entries))
    where
      late : length d.entries ≤ m.step → ⊥
      late past =
          let s = length d.entries - 1 in
          none (record { step = s; first = m.first; second = m.second }) (omega arith)
          (l, h, sym (rests m.first s m.step (omega arith) (omega arith)) ∙ e ∙ rests m.second s m.step (omega arith) (omega arith))
  none_ever Following some none m c =
      ⊎_elim (λ s. none m s c) (λ past. c.5 (rests m.first (m.step - 1) m.step (omega arith) (omega arith))) (cases_lt m.step (length d.entries))

  -- the conflict at the first step that has one is the soonest
  pub soonest_of : (kind : Conflict) (n : ℕ) → n ≡ length d.entries → 0 < n → (r : Option Meeting)
      → MatchOption r ((k : ℕ) → k < n → FirstAt d kind k None) (λ m. (x : ℕ) × (x < n) × FirstAt d kind x (Some m) × ((k : ℕ) → k < x → FirstAt d kind k None))
      → Soonest d kind r
  soonest_of kind n e some None none = none_ever kind (omega arith) (λ m l. none m.step (omega arith) m refl)
  soonest_of kind n e some (Some m) (x, below, (here, is, lower), none) = (is, sooner)
    where
      sooner : (k : Meeting) → Sooner k m → InConflict d kind k → ⊥
      sooner k (by_step l) c = none k.step (omega arith) k refl c
      sooner k (by_first f l) c = lower k (omega arith) (by_first f l) c
      sooner k (by_second f h l) c = lower k (omega arith) (by_second f h l) c
