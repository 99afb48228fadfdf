-- A walk over entries, path by path.
use Rattle.std.proofs.Common.{◌≡◌, ℕ, ◌+◌, ◌<◌, ◌≤◌, true, false, not, ◌==◌, suc, slice_index_or, List, [], ◌∷◌, length, filter, drop, refl, sym, ap, ⊎_elim, arith}
use Rattle.std.specs.List.{before_first, position_or_len}
use Rattle.std.specs.List.Sorted.{IsNonDecreasingBy}
use Rattle.std.proofs.lemmas.Bool.{cases_eq, eq-eqb, ne_eqb}
use Rattle.std.proofs.lemmas.List.{get_or_default}
use Rattle.record.specs.declared.entry.Entry.{Entry}
use Rattle.record.specs.Layout.{Draft}
use Rattle.record.specs.Entries.{no_entry, entry, Sound}
use Rattle.record.proofs.Sound.{carrier_known}
use Rattle.record.proofs.Together.{filter_none, rising}

-- carrier numbers never fall, and none is below i
abbrev pub From : ℕ → List Entry → Type 0
From i [] = Unit {0}
From i (e ∷ es) = (i ≤ e.carrier) × From e.carrier es

lower : (i j : ℕ) (es : List Entry) → i ≤ j → From j es → From i es
lower i j [] h f = tt
lower i j (e ∷ es) h (le, f) = (omega arith, f)

-- so they are in a sound plan, and each carrier is one of the plan's
from_rises : (i : ℕ) (es : List Entry) → ((k : ℕ) → k < length es → i ≤ (entry es k).carrier) → IsNonDecreasingBy (λ e. e.carrier) es → From i es
from_rises i [] low rises = tt
from_rises i (e ∷ es) low rises = (
  low 0 (omega arith),
  from_rises e.carrier es (λ k h. rises 0 (suc k) no_entry (omega arith) (omega arith)) (λ j k d le h. rises (suc j) (suc k) d (omega arith) (omega arith)),
)

pub sound_from : (d : Draft) → Sound d → From 0 d.entries
sound_from d sound = from_rises 0 d.entries (λ k h. omega arith) (rising d sound)

pub none_beyond : (d : Draft) → Sound d → (i : ℕ) → d.carriers ≤ i → filter (λ e. e.carrier == i) d.entries ≡ []
none_beyond d sound i h =
    filter_none (λ (e : Entry). e.carrier == i) d.entries
    (λ k e l u. let known : (slice_index_or d.entries k e).carrier < d.carriers = rw (get_or_default d.entries k e no_entry u) (carrier_known d sound k u) in ne_eqb _ _ (λ x. omega arith))

none_own : (i j : ℕ) (es : List Entry) → j < i → From i es → filter (λ e. e.carrier == j) es ≡ []
none_own i j [] h f = refl
none_own i j (e ∷ es) h (le, f) = let other : e.carrier == j ≡ false = ne_eqb _ _ (λ x. omega arith) in rw other (none_own e.carrier j es (omega arith) f)

-- the front of such entries is carrier i's path, and those after it are the later carriers'
pub record Cut (i : ℕ) (es : List Entry) : Type 0 where
  pub own : before_first (λ e. not (e.carrier == i)) es ≡ filter (λ e. e.carrier == i) es
  pub later : From (i + 1) (drop (position_or_len (λ e. not (e.carrier == i)) es) es)
  pub others : (j : ℕ) → i < j → filter (λ e. e.carrier == j) (drop (position_or_len (λ e. not (e.carrier == i)) es) es) ≡ filter (λ e. e.carrier == j) es

module _ (i : ℕ) (e : Entry) (es : List Entry) where
  cut_own : e.carrier ≡ i → Cut i es → Cut i (e ∷ es)
  cut_own is rest =
      let here : e.carrier == i ≡ true = eq-eqb _ _ is in
      let more : (n : ℕ) → 1 + n ≡ suc n = λ n. omega arith in
      record {
        own = rw (here, more) (ap (λ l. e ∷ l) rest.own);
        later = rw (here, more) rest.later;
        others = λ j h. let gone : e.carrier == j ≡ false = ne_eqb _ _ (λ x. omega arith) in rw (here, gone, more) (rest.others j h);
      }

  cut_other : (e.carrier ≡ i → ⊥) → i ≤ e.carrier → From e.carrier es → Cut i (e ∷ es)
  cut_other ne le f =
      let there : e.carrier == i ≡ false = ne_eqb _ _ ne in
      record { own = rw there (sym (none_own e.carrier i es (omega arith) f)); later = rw there (omega arith, f); others = λ j h. rw there refl }

pub cut : (i : ℕ) (es : List Entry) → From i es → Cut i es
cut i [] f = record { own = refl; later = tt; others = λ j h. refl }
cut i (e ∷ es) (le, f) =
    ⊎_elim (λ is. cut_own i e es is (cut i es (lower i e.carrier es (omega arith) f))) (λ ne. cut_other i e es ne le f) (cases_eq e.carrier i)
