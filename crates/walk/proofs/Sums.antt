-- Sums along walks by their last edges. Neither idempotence nor the order of the edges is used.
use Rattle.std.proofs.Common.{◌≡◌, ℕ, zero, suc, ◌+◌, ◌<◌, Bool, true, false, cond, eqb, List, [], ◌∷◌, ◌++◌, map, All, sym, refl, ap, ◌∙◌, add-zero, add-suc, arith}
use Rattle.std.specs.List.{flat_map}
use Rattle.std.proofs.lemmas.List.{map-append}
use Rattle.std.proofs.lemmas.List.Elements.{All-tail}
use Rattle.walk.specs.declared.visit.Visit.{Visit}
use Rattle.walk.specs.Edges.{visit}
use Rattle.walk.specs.Walks.{walks}
use Rattle.walk.specs.Values.{Operations, Laws}
use Rattle.walk.specs.Sums.{total, brought, sum_over}

module _ {K : Type 0} (ops : Operations K) (laws : Laws ops) where
  pub join_zero : (x : K) → ops.join x ops.zero ≡ x
  join_zero x = laws.comm x ops.zero ∙ laws.zero_join x

  pub total_append : (xs ys : List K) → total ops (xs ++ ys) ≡ ops.join (total ops xs) (total ops ys)
  total_append [] ys = sym (laws.zero_join (total ops ys))
  total_append (x ∷ xs) ys = ap (ops.join x) (total_append xs ys) ∙ sym (laws.assoc x (total ops xs) (total ops ys))

  pub total_push : (xs : List K) (x : K) → total ops (xs ++ x ∷ []) ≡ ops.join (total ops xs) x
  total_push xs x = total_append xs (x ∷ []) ∙ ap (ops.join (total ops xs)) (join_zero x)

  -- values carried on together are the values carried on one by one
  step_total : (c : Visit) (xs : List K) → ops.step (total ops xs) c ≡ total ops (map (λ x. ops.step x c) xs)
  step_total c [] = laws.step_zero c
  step_total c (x ∷ xs) = laws.step_join x (total ops xs) c ∙ ap (ops.join (ops.step x c)) (step_total c xs)

  module _ {E : Type 0} (vs : List Visit) (from to : E → ℕ) (start : ℕ → K) where
    -- what an edge brings to v, of the values that the visits have
    abbrev pub over_edge : (ℕ → K) → ℕ → E → K
    over_edge values v e = cond (eqb (to e) v) (ops.step (values (from e)) (visit vs v)) ops.zero

    -- the walks that an edge makes longer bring what the shorter ones brought, one visit further on
    longer : (v : ℕ) (e : E) (ws : List (List E)) → map (brought ops vs from start v) (map (λ w. e ∷ w) ws) ≡ map (λ x. ops.step x (visit vs v)) (map (brought ops vs from start (from e)) ws)
    longer v e [] = refl
    longer v e (w ∷ ws) = ap (λ xs. ops.step (brought ops vs from start (from e) w) (visit vs v) ∷ xs) (longer v e ws)

    module _ (es : List E) where
      abbrev sum : ℕ → ℕ → K
      sum = sum_over ops vs from to es start

      -- what the walks over one last edge sum to
      over_one : (k v : ℕ) (e : E) (b : Bool) → total ops (map (brought ops vs from start v) (cond b (map (λ w. e ∷ w) (walks from to es k (from e))) [])) ≡ cond b (ops.step (sum k (from e)) (visit vs v)) ops.zero
      unfolding sum_over
      over_one k v e true =
          ap (total ops) (longer v e (walks from to es k (from e)))
          ∙ sym (step_total (visit vs v) (map (brought ops vs from start (from e)) (walks from to es k (from e))))
      over_one k v e false = refl

      over_all : (k v : ℕ) (fs : List E) → total ops (map (brought ops vs from start v) (flat_map (λ e. cond (eqb (to e) v) (map (λ w. e ∷ w) (walks from to es k (from e))) []) fs)) ≡ total ops (map (over_edge (sum k) v) fs)
      over_all k v [] = refl
      over_all k v (e ∷ fs) =
          let f : List E → K = brought ops vs from start v in
          let ws : List (List E) = cond (eqb (to e) v) (map (λ w. e ∷ w) (walks from to es k (from e))) [] in
          let rest : List (List E) = flat_map (λ e. cond (eqb (to e) v) (map (λ w. e ∷ w) (walks from to es k (from e))) []) fs in
          ap (total ops) (map-append f ws rest)
          ∙ total_append (map f ws) (map f rest)
          ∙ (λ i. ops.join (over_one k v e (eqb (to e) v) i) (over_all k v fs i))

      -- the sum over walks of one edge more, by the last edge
      pub sum_more : (k v : ℕ) → sum_over ops vs from to es start (suc k) v ≡ ops.join (start v) (total ops (map (over_edge (sum_over ops vs from to es start k) v) es))
      unfolding sum_over
      sum_more k v = ap (ops.join (start v)) (over_all k v es)

      pub sum_none : (v : ℕ) → sum_over ops vs from to es start 0 v ≡ start v
      unfolding sum_over
      sum_none v = join_zero (start v)

      -- where values agree at the visits that edges lead from, the edges bring the same
      pub over_same : (f g : ℕ → K) (n v : ℕ) (fs : List E) → All (λ e. from e < n) fs → ((u : ℕ) → u < n → f u ≡ g u) → map (over_edge f v) fs ≡ map (over_edge g v) fs
      over_same f g n v [] within same = refl
      over_same f g n v (e ∷ fs) within same =
          λ i. cond (eqb (to e) v) (ops.step (same (from e) (within 0 e (omega arith)) i) (visit vs v)) ops.zero ∷ over_same f g n v fs (All-tail (λ d. from d < n) e fs within) same i

      -- once one edge more adds nothing, no number of edges more does
      pub sum_stays : (k n : ℕ) → All (λ e. from e < n) es → ((u : ℕ) → u < n → sum_over ops vs from to es start (suc k) u ≡ sum_over ops vs from to es start k u) → (j u : ℕ) → u < n → sum_over ops vs from to es start (k + j) u ≡ sum_over ops vs from to es start k u
      sum_stays k n within quiet zero u h = ap (λ m. sum m u) (add-zero k)
      sum_stays k n within quiet (suc j) u h =
          ap (λ m. sum m u) (add-suc k j)
          ∙ sum_more (k + j) u
          ∙ ap (λ xs. ops.join (start u) (total ops xs)) (over_same (sum (k + j)) (sum k) n u es within (sum_stays k n within quiet j))
          ∙ sym (sum_more k u)
          ∙ quiet u h

-- starting values matter only at the visits that walks can come from
pub sum_starts :
    {K E : Type 0} (ops : Operations K) (laws : Laws ops) (vs : List Visit) (from to : E → ℕ) (es : List E) (start other : ℕ → K) (n : ℕ) →
    All (λ e. from e < n) es → ((u : ℕ) → u < n → start u ≡ other u) → (k v : ℕ) → v < n →
    sum_over ops vs from to es start k v ≡ sum_over ops vs from to es other k v
sum_starts ops laws vs from to es start other n within same zero v h =
    sum_none ops laws vs from to start es v ∙ same v h ∙ sym (sum_none ops laws vs from to other es v)
sum_starts ops laws vs from to es start other n within same (suc k) v h =
    sum_more ops laws vs from to start es k v
    ∙ (λ i. ops.join (same v h i) (total ops (over_same ops laws vs from to start es (sum_over ops vs from to es start k) (sum_over ops vs from to es other k) n v es within (sum_starts ops laws vs from to es start other n within same k) i)))
    ∙ sym (sum_more ops laws vs from to other es k v)
