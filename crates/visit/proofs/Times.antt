-- The times of a plan's visits, where no two carriers are in conflict.
use Rattle.std.proofs.Common.{◌≡◌, ℕ, zero, suc, ◌+◌, ◌-◌, ◌<◌, ◌≤◌, min, true, false, ◌⊎◌, List, length, get_or, filter, All, AllPairs, Contains, sym, refl, ap, ◌∙◌, subst, inl, inr, ⊎_elim, add-zero, arith}
use Rattle.std.specs.List.{range_with_len}
use Rattle.std.proofs.lemmas.List.{get_or_default}
use Rattle.std.proofs.lemmas.List.Kept.{AllPairs-filter}
use Rattle.std.proofs.lemmas.Bool.{cases_lt, cases_order, cases_Bool, both_ways, and_parts, and_from, or_parts, or_from, not-true, not-false, not_from_true, eqb-true, eqb-false, eq-eqb, ne_eqb, ltb-true, lt-ltb}
use Rattle.fault.specs.declared.kinds.Conflict.TheVariants.{Clash, Following}
use Rattle.record.specs.Layout.{Draft}
use Rattle.record.specs.Steps.{path, at_step, cell, visit_at}
use Rattle.walk.specs.declared.visit.Visit.{Visit}
use Rattle.walk.specs.declared.crossing.Crossing.{Crossing}
use Rattle.walk.specs.Edges.{no_visit, visit, no_crossing, crossing, has_next}
use Rattle.walk.proofs.Timely.{Timely}
use Rattle.walk.proofs.Lists.{has_counting, has_map, has_kept, has_joined, pairs_map, pairs_joined, counting_up}
use Rattle.plan.specs.Conflicts.{ConflictFree}
use Rattle.visit.specs.Visits.{visit_of, carrier_visits, plan_visits}
use Rattle.visit.specs.Crossings.{crosses, crossing_of, crossings_from, plan_crossings}
use Rattle.visit.proofs.Ordered.{all_joined_below, all_kept_below}

-- an entry that is no visit is in the cell of the one before it
unmoved : (r : List ℕ) (t : ℕ) → visit_at r t ≡ false → get_or r (t - 1) 0 ≡ get_or r t 0
unmoved r t e = eqb-true _ _ (not-false _ (or_parts _ _ e).1)

-- a visit is not, unless it is the first entry
moved : (r : List ℕ) (t : ℕ) → visit_at r t ≡ true → 1 ≤ t → get_or r (t - 1) 0 ≡ get_or r t 0 → ⊥
moved r t e h same =
    both_ways (visit_at r t) (or_from _ _ (ne_eqb t 0 (λ z. omega arith)) (not_from_true _ (eq-eqb _ _ same))) e

in_path : (r : List ℕ) (t : ℕ) → t < length r → at_step r t ≡ get_or r t 0
in_path r t h = let e : min t (length r - 1) ≡ t = omega arith in ap (λ k. get_or r k 0) e

-- a visit that the plan makes
record Made (d : Draft) (a : Visit) : Type 0 where
  manned : a.carrier < d.carriers
  within : a.step < length (path d.entries a.carrier)
  entered : visit_at (path d.entries a.carrier) a.step ≡ true
  there : a.cell ≡ get_or (path d.entries a.carrier) a.step 0

-- the order of the visits
abbrev Before : Visit → Visit → Type 0
Before a b = (a.carrier < b.carrier) ⊎ ((a.carrier ≡ b.carrier) × (a.step < b.step))

abbrev IsUpTo : Visit → Visit → Type 0
IsUpTo a b = (a.carrier ≤ b.carrier) × (a.carrier ≡ b.carrier → a.step ≤ b.step)

up_to_before : (a b : Visit) → Before a b → IsUpTo a b
up_to_before a b (inl l) = (omega arith, λ e. absurd (omega arith))
up_to_before a b (inr (e, l)) = (omega arith, λ _. omega arith)

module _ (d : Draft) where
  abbrev r : ℕ → List ℕ
  r i = path d.entries i

  abbrev vs : List Visit
  vs = plan_visits d

  -- all visits are made
  all_made : All (Made d) vs
  all_made = all_joined_below (Made d) (carrier_visits d.entries) d.carriers own
    where
      own : (i : ℕ) → i < d.carriers → All (Made d) (carrier_visits d.entries i)
      own i manned =
          all_kept_below (Made d) (visit_of i (r i)) (visit_at (r i)) (length (r i))
          (λ t h e. record { manned = manned; within = h; entered = e; there = refl })

  made : (v : ℕ) → v < length vs → Made d (visit vs v)
  made v h = all_made v no_visit h

  -- they are in order
  in_order : AllPairs Before vs
  in_order =
      pairs_joined ◌<◌ Before (λ i a. a.carrier ≡ i) (carrier_visits d.entries) own
      (λ i. all_kept_below (λ a. a.carrier ≡ i) (visit_of i (r i)) (visit_at (r i)) (length (r i)) (λ t h e. refl))
      (λ i j a b l e f. inl (omega arith)) (range_with_len 0 d.carriers) (counting_up d.carriers)
    where
      own : (i : ℕ) → AllPairs Before (carrier_visits d.entries i)
      own i =
          let all = range_with_len 0 (length (r i)) in
          pairs_map ◌<◌ Before (visit_of i (r i)) (λ s t l. inr (refl, l)) (filter (visit_at (r i)) all)
          (AllPairs-filter ◌<◌ (visit_at (r i)) all (counting_up (length (r i))))

  before : (u w : ℕ) → u < w → w < length vs → Before (visit vs u) (visit vs w)
  before u w = in_order u w no_visit

  up_to : (u w : ℕ) → u ≤ w → w < length vs → IsUpTo (visit vs u) (visit vs w)
  up_to u w l h = ⊎_elim (λ m. up_to_before (visit vs u) (visit vs w) (before u w m h)) (λ m. same (omega arith)) (cases_lt u w)
    where
      same : u ≡ w → IsUpTo (visit vs u) (visit vs w)
      same e = subst (λ k. IsUpTo (visit vs u) (visit vs k)) e (omega arith, λ _. omega arith)

  -- and none is missing
  has_visit : (i t : ℕ) → i < d.carriers → t < length (r i) → visit_at (r i) t ≡ true → Contains vs (visit_of i (r i) t)
  has_visit i t manned within e =
      let all = range_with_len 0 (length (r i)) in
      has_joined (carrier_visits d.entries) (range_with_len 0 d.carriers) i (visit_of i (r i) t) (has_counting d.carriers i manned)
      (has_map (visit_of i (r i)) (filter (visit_at (r i)) all) t
      (has_kept (visit_at (r i)) all t (has_counting (length (r i)) t within) e))

  -- a carrier's next visit is later, and no other visit of the carrier comes between
  later : (v : ℕ) → has_next vs v ≡ true → (visit vs v).step < (visit vs (v + 1)).step
  later v next =
      let (there, own) = and_parts _ _ next in
      ⊎_elim (λ l. absurd (omega (arith, eqb-true _ _ own))) (λ (e, l). l) (before v (v + 1) (omega arith) (ltb-true _ _ there))

  next_is : (v k : ℕ) → v < length vs → k < length vs → (visit vs k).carrier ≡ (visit vs v).carrier → (visit vs v).step < (visit vs k).step → (has_next vs v ≡ true) × ((visit vs (v + 1)).step ≤ (visit vs k).step)
  next_is v k hv hk e l = ⊎_elim above (λ b. absurd (omega (arith, (up_to k v b hv).1 e))) (cases_lt v k)
    where
      above : v < k → (has_next vs v ≡ true) × ((visit vs (v + 1)).step ≤ (visit vs k).step)
      above b =
          let there : v + 1 < length vs = omega arith in
          let (low, _) = up_to v (v + 1) (omega arith) there in
          let (high, sooner) = up_to (v + 1) k (omega arith) hk in
          let own : (visit vs (v + 1)).carrier ≡ (visit vs v).carrier = omega arith in
          (and_from _ _ (lt-ltb (v + 1) (length vs) there) (eq-eqb _ _ own), sooner (own ∙ sym e))

  -- step t comes before the next visit of visit v's carrier, if there is one
  abbrev UntilNext : ℕ → ℕ → Type 0
  UntilNext v t = has_next vs v ≡ true → t < (visit vs (v + 1)).step

  -- until then the carrier stays in the cell
  module _ (v : ℕ) (h : v < length vs) where
    abbrev a : Visit
    a = visit vs v

    abbrev own : List ℕ
    own = r a.carrier

    none_between : (t : ℕ) → a.step < t → t < length own → UntilNext v t → visit_at own t ≡ false
    none_between t after within until = ⊎_elim (λ e. absurd (visited e)) (λ e. e) (cases_Bool (visit_at own t))
      where
        visited : visit_at own t ≡ true → ⊥
        visited e =
            let (k, hk, at) = has_visit a.carrier t (made v h).manned within e in
            let same : visit vs k ≡ visit_of a.carrier own t = get_or_default vs k no_visit _ hk ∙ at in
            let now : (visit vs k).step ≡ t = ap (λ (b : Visit). b.step) same in
            let (next, first) = next_is v k h hk (ap (λ (b : Visit). b.carrier) same) (omega arith) in
            omega (arith, until next)

    stays_in_path : (n : ℕ) → a.step + n < length own → UntilNext v (a.step + n) → get_or own (a.step + n) 0 ≡ a.cell
    stays_in_path zero within until = ap (λ t. get_or own t 0) (add-zero a.step) ∙ sym (made v h).there
    stays_in_path (suc n) within until =
        let t = a.step + suc n in
        let back : t - 1 ≡ a.step + n = omega arith in
        sym (unmoved own t (none_between t (omega arith) within until))
        ∙ ap (λ k. get_or own k 0) back
        ∙ stays_in_path n (omega arith) (λ next. omega (arith, until next))

    -- past its path too, where it rests
    stays : (t : ℕ) → a.step ≤ t → UntilNext v t → cell d a.carrier t ≡ a.cell
    stays t from until =
        let n = min t (length own - 1) - a.step in
        let within : a.step < length own = (made v h).within in
        let e : min t (length own - 1) ≡ a.step + n = omega arith in
        ap (λ k. get_or own k 0) e ∙ stays_in_path n (omega arith) (λ next. omega (arith, until next))

-- what it is to cross
cross_parts : (xs : List Visit) (u w : ℕ) → crosses xs u w ≡ true → ((visit xs u).carrier ≡ (visit xs w).carrier → ⊥) × ((visit xs u).cell ≡ (visit xs w).cell) × ((visit xs u).step < (visit xs w).step)
cross_parts xs u w e =
    let (other, rest) = and_parts _ _ e in
    let (same, sooner) = and_parts _ _ rest in
    (eqb-false _ _ (not-true _ other), eqb-true _ _ same, ltb-true _ _ sooner)

module _ (d : Draft) (free : ConflictFree d) where
  no_clash : (i j t : ℕ) → i < d.carriers → j < d.carriers → (i ≡ j → ⊥) → cell d i t ≡ cell d j t → ⊥
  no_clash i j t hi hj apart e = ⊎_elim apart (⊎_elim lower higher) (cases_order i j)
    where
      lower : i < j → ⊥
      lower l = free Clash (record { step = t; first = i; second = j }) (l, hj, e)

      higher : j < i → ⊥
      higher l = free Clash (record { step = t; first = j; second = i }) (l, hi, sym e)

  -- of two visits that cross, the first carrier has left the cell at a step before the second comes
  module _ (u w : ℕ) (hu : u < length (vs d)) (hw : w < length (vs d)) (cross : crosses (vs d) u w ≡ true) where
    abbrev one : Visit
    one = visit (vs d) u

    abbrev two : Visit
    two = visit (vs d) w

    apart : one.carrier ≡ two.carrier → ⊥
    apart = (cross_parts (vs d) u w cross).0

    same_cell : one.cell ≡ two.cell
    same_cell = (cross_parts (vs d) u w cross).1

    earlier : one.step < two.step
    earlier = (cross_parts (vs d) u w cross).2

    comes : cell d two.carrier two.step ≡ one.cell
    comes = stays d w hw two.step (omega arith) (later d w) ∙ sym same_cell

    -- else the two would clash
    gone : UntilNext d u two.step → ⊥
    gone until =
        no_clash one.carrier two.carrier two.step (made d u hu).manned (made d w hw).manned apart
        (stays d u hu two.step (omega (arith, earlier)) until ∙ sym comes)

    leaves : has_next (vs d) u ≡ true
    leaves = ⊎_elim (λ e. e) (λ e. absurd (gone (λ next. absurd (both_ways _ e next)))) (cases_Bool (has_next (vs d) u))

    -- else the second would follow the first
    not_then : two.step ≡ (visit (vs d) (u + 1)).step → ⊥
    not_then e =
        let s = two.step in let own = r d two.carrier in
        let after : one.step < s = earlier in
        let within : s < length own = (made d w hw).within in
        let still : at_step own s ≡ at_step own (s - 1) → get_or own (s - 1) 0 ≡ get_or own s 0 =
        λ z. sym (in_path own (s - 1) (omega arith)) ∙ sym z ∙ in_path own s within in
        free Following (record { step = s; first = two.carrier; second = one.carrier }) (
          omega arith,
          (made d w hw).manned,
          (made d u hu).manned,
          λ z. apart (sym z),
          comes ∙ sym (stays d u hu (s - 1) (omega arith) (λ _. omega arith)),
          λ z. moved own s (made d w hw).entered (omega arith) (still z),
        )

    clear_of : (visit (vs d) (u + 1)).step < two.step
    clear_of =
        ⊎_elim (λ e. absurd (not_then e)) (⊎_elim (λ l. absurd (gone (λ _. l))) (λ l. l))
        (cases_order two.step (visit (vs d) (u + 1)).step)

-- a crossing's visits are there, and cross
abbrev Cross : List Visit → Crossing → Type 0
Cross vs c = (c.first < length vs) × (c.second < length vs) × (crosses vs c.first c.second ≡ true)

all_cross : (vs : List Visit) → All (Cross vs) (plan_crossings vs)
all_cross vs =
    all_joined_below (Cross vs) (crossings_from vs) (length vs)
    (λ u hu. all_kept_below (Cross vs) (crossing_of vs u) (crosses vs u) (length vs) (λ w hw e. (hu, hw, e)))

pub plan_timely : (d : Draft) → ConflictFree d → Timely (plan_visits d) (plan_crossings (plan_visits d))
plan_timely d free =
    let cs = plan_crossings (vs d) in
    let at : (k : ℕ) → k < length cs → Cross (vs d) (crossing cs k) =
    λ k. all_cross (vs d) k no_crossing in
    record {
      later = later d;
      second_there = λ k h. (at k h).1;
      first_leaves = λ k h. let (hu, hw, cross) = at k h in leaves d free (crossing cs k).first (crossing cs k).second hu hw cross;
      clear = λ k h. let (hu, hw, cross) = at k h in clear_of d free (crossing cs k).first (crossing cs k).second hu hw cross;
    }
