-- Every carrier of a plan has visits of its own, and its last visit is one of them.
use Rattle.std.proofs.Common.{◌≡◌, ℕ, zero, suc, ◌+◌, ◌-◌, ◌<◌, ◌≤◌, Bool, false, ◌&&◌, eqb, ltb, ◌⊎◌, List, [], ◌∷◌, map, length, filter, sym, refl, ap, ◌∙◌, inl, inr, ⊎_elim, add-zero, arith}
use Rattle.std.specs.List.{range_with_len}
use Rattle.std.proofs.lemmas.List.{length-map, get_or_append_left, get_or-append-add}
use Rattle.std.proofs.lemmas.List.Elements.{Contains-get_or}
use Rattle.std.proofs.lemmas.Bool.{and_right, eq-eqb, ne_eqb, le-ltb, cases_eq, cases_lt}
use Rattle.fault.specs.declared.kinds.Flaw.TheVariants.{Carrier}
use Rattle.record.specs.declared.entry.Entry.{Entry}
use Rattle.record.specs.Layout.{Draft}
use Rattle.record.specs.Entries.{no_entry, entry, Sound}
use Rattle.record.specs.Steps.{path, visit_at}
use Rattle.record.proofs.Layers.{same_unless}
use Rattle.walk.specs.declared.visit.Visit.{Visit}
use Rattle.walk.specs.Edges.{no_visit, visit, has_next}
use Rattle.walk.proofs.Lists.{has_kept}
use Rattle.fixed.proofs.Counting.{joined_counting}
use Rattle.visit.specs.Visits.{visit_of, carrier_visits, first_visits, plan_visits, last_visit, LastOf}
use Rattle.visit.proofs.Few.{first_more, visits_rise}
use Rattle.visit.proofs.Ordered.{all_kept_below}

-- ---- where a carrier's visits stand

module _ (es : List Entry) where
  -- more carriers leave the visits of the first ones in their places
  stay : (m j v : ℕ) → v < length (first_visits es m) → visit (first_visits es (m + j)) v ≡ visit (first_visits es m) v
  stay m zero v h = ap (λ n. visit (first_visits es n) v) (add-zero m)
  stay m (suc j) v h =
      let one_more : m + suc j ≡ (m + j) + 1 = omega arith in
      let up = visits_rise es m (m + j) (omega arith) in
      ap (λ n. visit (first_visits es n) v) one_more
      ∙ ap (λ vs. visit vs v) (joined_counting (carrier_visits es) (m + j))
      ∙ get_or_append_left (first_visits es (m + j)) (carrier_visits es (m + j)) no_visit v (omega arith)
      ∙ stay m j v h

  -- a carrier's visits follow those of the carriers before it
  pub own_visit :
      (n i k : ℕ) → i < n → k < length (carrier_visits es i)
      → (visit (first_visits es n) (length (first_visits es i) + k)).carrier ≡ i
  own_visit n i k h l =
      let at = length (first_visits es i) + k in
      let r = path es i in
      let own = all_kept_below (λ a. a.carrier ≡ i) (visit_of i r) (visit_at r) (length r) (λ t h e. refl) in
      let all : n ≡ (i + 1) + (n - (i + 1)) = omega arith in
      ap (λ (a : Visit). a.carrier) (
      ap (λ m. visit (first_visits es m) at) all
      ∙ stay (i + 1) (n - (i + 1)) at (omega (arith, first_more es i))
      ∙ ap (λ vs. visit vs at) (joined_counting (carrier_visits es) i)
      ∙ get_or-append-add (first_visits es i) (carrier_visits es i) k no_visit
      )
      ∙ own k no_visit l

-- ---- every carrier has a visit

-- a path with a cell has a visit at step 0
visited : (i : ℕ) (r : List ℕ) → 0 < length r → 0 < length (map (visit_of i r) (filter (visit_at r) (range_with_len 0 (length r))))
visited i [] h = omega arith
visited i (c ∷ r) h = omega arith

module _ (d : Draft) (sound : Sound d) where
  abbrev es : List Entry
  es = d.entries

  first_is : 0 < length es → (entry es 0).carrier ≡ 0
  first_is some = same_unless _ _ (λ ne. sound Carrier 0 (inl (some, inl (λ follows. ne (follows.0 refl)))))

  last_is : (entry es (length es - 1)).carrier + 1 ≡ d.carriers
  last_is = same_unless _ _ (λ ne. sound Carrier (length es) (inr (refl, ne)))

  one_up : (k : ℕ) → suc k < length es → (entry es (suc k)).carrier ≤ (entry es k).carrier + 1
  one_up k h =
      ⊎_elim (λ far. absurd (sound Carrier (suc k) (inl (h, inl (λ follows. too_far far (follows.1 (omega arith)))))))
      (λ near. near) (cases_lt ((entry es k).carrier + 1) (entry es (suc k)).carrier)
    where
      too_far :
          (entry es k).carrier + 1 < (entry es (suc k)).carrier
          → ((entry es (suc k)).carrier ≡ (entry es (suc k - 1)).carrier)
          ⊎ ((entry es (suc k)).carrier ≡ (entry es (suc k - 1)).carrier + 1)
          → ⊥
      too_far far next =
          let before : suc k - 1 ≡ k = omega arith in
          let same = ap (λ n. (entry es n).carrier) before in
          ⊎_elim (λ e. omega arith) (λ e. omega arith) next

  -- carrier numbers leave none out, up to that of any entry
  up_to : (k i : ℕ) → k < length es → i ≤ (entry es k).carrier → (j : ℕ) × (j < length es) × ((entry es j).carrier ≡ i)
  up_to zero i h l = (0, h, omega (arith, first_is h))
  up_to (suc k) i h l =
      ⊎_elim (λ e. (suc k, h, e)) (λ ne. up_to k i (omega arith) (omega (arith, one_up k h)))
      (cases_eq (entry es (suc k)).carrier i)

  module _ (listed : d.carriers ≤ length es) (i : ℕ) (manned : i < d.carriers) where
    pub some_visits : 0 < length (carrier_visits d.entries i)
    some_visits =
        let (j, h, e) = up_to (length es - 1) i (omega arith) (omega (arith, last_is)) in
        let own : Entry → Bool = λ x. eqb x.carrier i in
        let (k, there, at) = has_kept own es (entry es j) (Contains-get_or es j no_entry h) (eq-eqb _ _ e) in
        visited i (path es i) (omega (arith, length-map (filter own es) (λ x. x.cell)))

    last_is_own : (visit (plan_visits d) (last_visit d i)).carrier ≡ i
    last_is_own =
        let k = length (carrier_visits es i) - 1 in
        let last : last_visit d i ≡ length (first_visits es i) + k = omega (arith, first_more es i, some_visits) in
        ap (λ v. (visit (plan_visits d) v).carrier) last ∙ own_visit es d.carriers i k manned (omega (arith, some_visits))

-- the visit after it, if there is one, is of the next carrier
last_ends :
    (d : Draft) (sound : Sound d) → d.carriers ≤ length d.entries → (i : ℕ) → i < d.carriers
    → has_next (plan_visits d) (last_visit d i) ≡ false
last_ends d sound listed i manned = ⊎_elim goes_on ends (cases_lt (i + 1) d.carriers)
  where
    next : last_visit d i + 1 ≡ length (first_visits d.entries (i + 1))
    next = omega (arith, first_more d.entries i, some_visits d sound listed i manned)

    goes_on : i + 1 < d.carriers → has_next (plan_visits d) (last_visit d i) ≡ false
    goes_on h =
        let there : (visit (plan_visits d) (last_visit d i + 1)).carrier ≡ i + 1 =
        ap (λ v. (visit (plan_visits d) v).carrier) (next ∙ sym (add-zero _))
        ∙ own_visit d.entries d.carriers (i + 1) 0 h (some_visits d sound listed (i + 1) h) in
        let apart : eqb (visit (plan_visits d) (last_visit d i + 1)).carrier (visit (plan_visits d) (last_visit d i)).carrier ≡ false =
        ne_eqb _ _ (λ e. omega (arith, last_is_own d sound listed i manned)) in
        and_right (ltb (last_visit d i + 1) (length (plan_visits d))) _ apart

    ends : d.carriers ≤ i + 1 → has_next (plan_visits d) (last_visit d i) ≡ false
    ends h =
        let all : i + 1 ≡ d.carriers = omega arith in
        let past : length (plan_visits d) ≤ last_visit d i + 1 = omega (arith, ap (λ n. length (first_visits d.entries n)) all) in
        ap (λ b. b && eqb (visit (plan_visits d) (last_visit d i + 1)).carrier (visit (plan_visits d) (last_visit d i)).carrier) (le-ltb _ _ past)

pub last_of :
    (d : Draft) (sound : Sound d) → d.carriers ≤ length d.entries → (i : ℕ) → i < d.carriers
    → LastOf (plan_visits d) i (last_visit d i)
last_of d sound listed i manned = (
  omega (arith, first_more d.entries i, some_visits d sound listed i manned, visits_rise d.entries (i + 1) d.carriers (omega arith)),
  last_is_own d sound listed i manned,
  last_ends d sound listed i manned,
)
