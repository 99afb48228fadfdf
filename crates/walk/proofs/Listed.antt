-- The list of walks has each walk of at most so many edges, nothing else, and none twice.
use Rattle.std.proofs.Common.{◌≡◌, ℕ, zero, suc, ◌+◌, ◌<◌, ◌≤◌, ◌≢◌, Bool, true, false, cond, eqb, List, [], ◌∷◌, ◌++◌, map, length, get_or, All, Contains, sym, refl, ap, ◌∙◌, subst, suc-le-suc, zero-le, le_of_suc-le-suc, not-suc-le-zero, arith}
use Rattle.std.specs.List.{range_with_len, flat_map}
use Rattle.std.proofs.lemmas.Bool.{eqb-true, eq-eqb, ltb-true, and_parts, both_ways, cond-true, cond_both}
use Rattle.std.proofs.lemmas.List.Elements.{All-nil, All-cons, All-map, All-contains, All-contains_itself, All-from_recursion, Contains-append_left, Contains-append_right, filter_passes}
use Rattle.std.proofs.lemmas.List.Kept.{AllPairs-cons, AllPairs-filter}
use Rattle.walk.specs.declared.visit.Visit.{Visit}
use Rattle.walk.specs.declared.crossing.Crossing.{Crossing}
use Rattle.walk.specs.declared.crossing.Ways.{Ways}
use Rattle.walk.specs.Edges.{Edge, path_edge, plan_edge, reversed_edge, from, to, is_edge, edges}
use Rattle.walk.specs.Walks.{Walk, Distinct, walks, ListsWalks}
use Rattle.walk.proofs.Lists.{has_counting, has_map, of_map, has_kept, all_joined, has_joined, of_joined, not_in, pairs_one, pairs_append, pairs_map, pairs_joined, counting_up}
use Rattle.walk.proofs.Straight.{carry}

-- ---- walks over any edges

not_empty : {E : Type 0} (e : E) (r : List E) → e ∷ r ≡ [] → ⊥
not_empty e r same = let z : ◌≡◌ {A = ℕ} 0 1 = cc in omega arith

same_last : {E : Type 0} (e d : E) (r s : List E) → e ∷ r ≡ d ∷ s → e ≡ d
same_last e d r s same = cc

same_rest : {E : Type 0} (e : E) (r s : List E) → e ∷ r ≡ e ∷ s → r ≡ s
same_rest e r s same = cc

module _ {E : Type 0} (from to : E → ℕ) (es : List E) where
  -- w is a walk of at most k of the edges that ends at v
  abbrev pub ShortWalk : ℕ → ℕ → List E → Type 0
  ShortWalk k v w = (length w ≤ k) × ((u : ℕ) × Walk from to (λ e. Contains es e) u v w)

  -- the walks with e as the last edge, after at most k others
  abbrev by_all : ℕ → E → List (List E)
  by_all k e = map (λ r. e ∷ r) (walks from to es k (from e))

  -- those of them that end at v
  abbrev by : ℕ → ℕ → E → List (List E)
  by k v e = cond (eqb (to e) v) (by_all k e) []

  -- w is one of them, with r before its last edge
  abbrev GoesBy : ℕ → ℕ → E → List E → Type 0
  GoesBy k v e w = (to e ≡ v) × (r : List E) × Contains (walks from to es k (from e)) r × (e ∷ r ≡ w)

  of_by : (k v : ℕ) (e : E) (w : List E) → Contains (by k v e) w → GoesBy k v e w
  of_by k v e w =
      cond_both (eqb (to e) v) (by_all k e) [] (λ ws. Contains ws w → GoesBy k v e w)
      (λ same h. let (r, listed, is) = of_map (λ r. e ∷ r) (walks from to es k (from e)) w h in (eqb-true (to e) v same, r, listed, is))
      (λ _ (j, l, at). absurd (omega arith))

  no_edges : (k v : ℕ) (w : List E) → [] ≡ w → ShortWalk k v w
  no_edges k v w e = subst (ShortWalk k v) e (zero-le, (v, refl))

  pub listed_is : (k v : ℕ) (w : List E) → Contains (walks from to es k v) w → ShortWalk k v w
  listed_is zero v w (zero, l, at) = no_edges zero v w at
  listed_is zero v w (suc j, l, at) = absurd (omega arith)
  listed_is (suc k) v w (zero, l, at) = no_edges (suc k) v w at
  listed_is (suc k) v w (suc j, l, at) =
      let (e, there, by_it) = of_joined (by k v) es w (j, omega arith, at) in
      let (ends, r, listed, same) = of_by k v e w by_it in
      let (short, (u, walk)) = listed_is k (from e) r listed in
      subst (ShortWalk (suc k) v) same (suc-le-suc short, (u, (there, ends, walk)))

  pub is_listed : (k u v : ℕ) (w : List E) → length w ≤ k → Walk from to (λ e. Contains es e) u v w → Contains (walks from to es k v) w
  is_listed zero u v [] short walk = (0, omega arith, refl)
  is_listed (suc k) u v [] short walk = (0, omega arith, refl)
  is_listed zero u v (e ∷ w) short walk = absurd (not-suc-le-zero short)
  is_listed (suc k) u v (e ∷ w) short (there, ends, walk) =
      let before = is_listed k u (from e) w (le_of_suc-le-suc short) walk in
      let goes = cond-true (eqb (to e) v) (by_all k e) [] (eq-eqb (to e) v ends) in
      Contains-append_right ([] ∷ []) (flat_map (by k v) es) (e ∷ w)
      (has_joined (by k v) es e (e ∷ w) there (rw goes (has_map (λ r. e ∷ r) (walks from to es k (from e)) w before)))

  none_empty : (k v : ℕ) → Contains (flat_map (by k v) es) [] → ⊥
  none_empty k v h =
      let (e, there, by_it) = of_joined (by k v) es [] h in
      let (ends, r, listed, same) = of_by k v e [] by_it in
      not_empty e r same

  one_last : (k v : ℕ) (e d : E) (w x : List E) → Contains (by k v e) w → Contains (by k v d) x → w ≡ x → e ≡ d
  one_last k v e d w x a b same =
      let (_, r, _, p) = of_by k v e w a in
      let (_, s, _, q) = of_by k v d x b in
      same_last e d r s (p ∙ same ∙ sym q)

  apart_by : (k v : ℕ) (e : E) → Distinct (walks from to es k (from e)) → Distinct (by k v e)
  apart_by k v e before =
      cond_both (eqb (to e) v) (by_all k e) [] Distinct
      (λ _. pairs_map ◌≢◌ ◌≢◌ (λ r. e ∷ r) (λ r s apart same. apart (same_rest e r s same)) (walks from to es k (from e)) before)
      (λ _ i j d l m. absurd (omega arith))

  pub listed_once : Distinct es → (k v : ℕ) → Distinct (walks from to es k v)
  listed_once apart zero v = pairs_one ◌≢◌ []
  listed_once apart (suc k) v =
      AllPairs-cons ◌≢◌ [] (flat_map (by k v) es) (not_in [] (flat_map (by k v) es) (none_empty k v))
      (pairs_joined ◌≢◌ ◌≢◌ (λ e. Contains (by k v e)) (by k v) (λ e. apart_by k v e (listed_once apart k (from e)))
      (λ e. All-contains_itself (by k v e)) (λ e d w x ne a b same. ne (one_last k v e d w x a b same)) es apart)

-- ---- the edges of the graph

abbrev both : ℕ → List Edge
both k = plan_edge k ∷ reversed_edge k ∷ []

-- the edges that there may be among n visits with m crossings
abbrev possible : ℕ → ℕ → List Edge
possible n m = map path_edge (range_with_len 0 n) ++ flat_map both (range_with_len 0 m)

-- the visit or the crossing that an edge is named by, and whether it is a crossing's
abbrev number : Edge → ℕ
number (path_edge v) = v
number (plan_edge k) = k
number (reversed_edge k) = k

abbrev crosses : Edge → Bool
crosses (path_edge v) = false
crosses (plan_edge k) = true
crosses (reversed_edge k) = true

all_both : (k : ℕ) → All (λ e. (number e ≡ k) × (crosses e ≡ true)) (both k)
all_both k = All-from_recursion (λ e. (number e ≡ k) × (crosses e ≡ true)) (both k) ((refl, refl), ((refl, refl), tt))

not_same : (k : ℕ) → plan_edge k ≢ reversed_edge k
not_same k same = let z : ◌≡◌ {A = ℕ} 0 1 = cc in omega arith

apart_both : (k : ℕ) → Distinct (both k)
apart_both k =
    AllPairs-cons ◌≢◌ (plan_edge k) (reversed_edge k ∷ [])
    (All-cons (◌≢◌ (plan_edge k)) (reversed_edge k) [] (not_same k) (All-nil (◌≢◌ (plan_edge k))))
    (pairs_one ◌≢◌ (reversed_edge k))

distinct_counting : (n : ℕ) → Distinct (range_with_len 0 n)
distinct_counting n i j d l m e = omega (arith, counting_up n i j d l m)

apart_possible : (n m : ℕ) → Distinct (possible n m)
apart_possible n m =
    let ns = range_with_len 0 n in
    let ms = range_with_len 0 m in
    pairs_append ◌≢◌ (map path_edge ns) (flat_map both ms)
    (pairs_map ◌≢◌ ◌≢◌ path_edge (λ x y ne same. ne (ap number same)) ns (distinct_counting n))
    (pairs_joined ◌≢◌ ◌≢◌ (λ k e. (number e ≡ k) × (crosses e ≡ true)) both apart_both all_both
    (λ j k a b ne p q same. ne (sym p.0 ∙ ap number same ∙ q.0)) ms (distinct_counting m))
    (All-map (λ e. All (◌≢◌ e) (flat_map both ms)) path_edge ns
    (λ v c h.
    all_joined (◌≢◌ (path_edge (get_or ns v c))) both ms
    (λ k d l j e i same. both_ways _ (ap crosses (sym same)) (all_both (get_or ms k d) j e i).1)))

path_possible : (n m v : ℕ) → v < n → Contains (possible n m) (path_edge v)
path_possible n m v below =
    Contains-append_left (map path_edge (range_with_len 0 n)) (flat_map both (range_with_len 0 m)) (path_edge v)
    (has_map path_edge (range_with_len 0 n) v (has_counting n v below))

crossing_possible : (n m k : ℕ) (e : Edge) → k < m → Contains (both k) e → Contains (possible n m) e
crossing_possible n m k e below h =
    Contains-append_right (map path_edge (range_with_len 0 n)) (flat_map both (range_with_len 0 m)) e
    (has_joined both (range_with_len 0 m) k e (has_counting m k below) h)

module _ (vs : List Visit) (cs : List Crossing) (ways : ℕ → Ways) where
  abbrev IsEdge : Edge → Type 0
  IsEdge e = is_edge vs cs ways e ≡ true

  abbrev InEdges : Edge → Type 0
  InEdges e = Contains (edges vs cs ways) e

  is_possible : (e : Edge) → IsEdge e → Contains (possible (length vs) (length cs)) e
  is_possible (path_edge v) is =
      path_possible (length vs) (length cs) v (omega (arith, ltb-true (v + 1) (length vs) (and_parts _ _ is).0))
  is_possible (plan_edge k) is =
      let below = ltb-true k (length cs) (and_parts _ _ is).0 in
      crossing_possible (length vs) (length cs) k (plan_edge k) below (0, omega arith, refl)
  is_possible (reversed_edge k) is =
      let below = ltb-true k (length cs) (and_parts _ _ is).0 in
      crossing_possible (length vs) (length cs) k (reversed_edge k) below (1, omega arith, refl)

  pub in_edges : (e : Edge) → Contains (edges vs cs ways) e → is_edge vs cs ways e ≡ true
  in_edges e = All-contains IsEdge (edges vs cs ways) e (filter_passes (is_edge vs cs ways) (possible (length vs) (length cs)))

  pub edges_in : (e : Edge) → is_edge vs cs ways e ≡ true → Contains (edges vs cs ways) e
  edges_in e is = has_kept (is_edge vs cs ways) (possible (length vs) (length cs)) e (is_possible e is) is

  pub distinct_edges : Distinct (edges vs cs ways)
  distinct_edges =
      AllPairs-filter ◌≢◌ (is_edge vs cs ways) (possible (length vs) (length cs)) (apart_possible (length vs) (length cs))

  pub lists_walks : (k v : ℕ) → ListsWalks vs cs ways k v
  lists_walks k v =
      record {
        only = λ w h.
            let is = listed_is (from cs) (to cs) (edges vs cs ways) k v w h in
            (is.0, (is.1.0, carry (from cs) (to cs) InEdges IsEdge in_edges is.1.0 v w is.1.1));
        all = λ u w short walk.
            is_listed (from cs) (to cs) (edges vs cs ways) k u v w short
            (carry (from cs) (to cs) IsEdge InEdges edges_in u v w walk);
        once = listed_once (from cs) (to cs) (edges vs cs ways) distinct_edges k v;
      }
