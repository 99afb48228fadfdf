-- Every visit is reached along its carrier's path from the carrier's first visit. So what a first visit starts with comes to each
-- visit of its carrier, if neither a join nor a step loses it.
use Rattle.std.proofs.Common.{◌≡◌, ℕ, zero, suc, ◌+◌, ◌-◌, ◌<◌, ◌≤◌, true, false, eqb, List, [], ◌∷◌, map, length, Contains, sym, refl, ap, ◌∙◌, subst, ⊎_elim, arith}
use Rattle.std.proofs.lemmas.Bool.{eqb-true, eq-eqb, lt-ltb, and_from, or_right, not_from_false, cases_Bool}
use Rattle.walk.specs.declared.visit.Visit.{Visit}
use Rattle.walk.specs.declared.crossing.Crossing.{Crossing}
use Rattle.walk.specs.declared.crossing.Ways.{Ways}
use Rattle.walk.specs.Edges.{Edge, path_edge, from, to, edges, visit, is_start}
use Rattle.walk.specs.Walks.{GraphWalk, graph_walks}
use Rattle.walk.specs.Values.{Operations}
use Rattle.walk.specs.Sums.{total, brought, sum_over, sum_at}
use Rattle.walk.proofs.Lists.{has_map}
use Rattle.walk.proofs.Listed.{lists_walks}

module _ (vs : List Visit) (cs : List Crossing) (ways : ℕ → Ways) where
  -- a walk to visit v from the first visit of its carrier, over each visit between them
  pub record ComesFromFirst (v : ℕ) : Type 0 where
    pub first : ℕ
    pub way : List Edge
    pub starts : is_start vs first ≡ true
    pub own : (visit vs first).carrier ≡ (visit vs v).carrier
    pub each : first + length way ≡ v
    pub leads : GraphWalk vs cs ways first v way

  -- a visit either goes on from the one before it, or is itself a first one
  pub comes_from_first : (v : ℕ) → v < length vs → ComesFromFirst v
  comes_from_first zero h = record { first = 0; way = []; starts = refl; own = refl; each = refl; leads = refl }
  comes_from_first (suc v) h =
      ⊎_elim (λ same. goes_on same (comes_from_first v (omega arith))) begins
      (cases_Bool (eqb (visit vs v).carrier (visit vs (suc v)).carrier))
    where
      goes_on : eqb (visit vs v).carrier (visit vs (suc v)).carrier ≡ true → ComesFromFirst v → ComesFromFirst (suc v)
      goes_on same c =
          let more : suc v ≡ v + 1 = omega arith in
          let on : (visit vs (v + 1)).carrier ≡ (visit vs v).carrier =
          ap (λ n. (visit vs n).carrier) (sym more) ∙ sym (eqb-true _ _ same) in
          record {
            first = c.first;
            way = path_edge v ∷ c.way;
            starts = c.starts;
            own = c.own ∙ eqb-true _ _ same;
            each = omega (arith, c.each);
            leads = (and_from _ _ (lt-ltb (v + 1) (length vs) (omega arith)) (eq-eqb _ _ on), sym more, c.leads);
          }

      begins : eqb (visit vs v).carrier (visit vs (suc v)).carrier ≡ false → ComesFromFirst (suc v)
      begins differs =
          let before : suc v - 1 ≡ v = omega arith in
          let new = ap (λ n. eqb (visit vs n).carrier (visit vs (suc v)).carrier) before ∙ differs in
          record {
            first = suc v;
            way = [];
            starts = or_right _ _ (not_from_false _ new);
            own = refl;
            each = omega arith;
            leads = refl;
          }

-- neither a join nor a step loses what Live says of a value
pub record Keeps {K : Type 0} (ops : Operations K) (Live : K → Type 0) : Type 0 where
  pub joins_left : (x y : K) → Live x → Live (ops.join x y)
  pub joins_right : (x y : K) → Live y → Live (ops.join x y)
  pub goes_on : (x : K) (v : Visit) → Live x → Live (ops.step x v)

module _ {K : Type 0} (ops : Operations K) (Live : K → Type 0) (keeps : Keeps ops Live) where
  one_live : (x : K) (xs : List K) → Contains xs x → Live x → Live (total ops xs)
  one_live x [] (k, h, at) l = absurd (omega arith)
  one_live x (y ∷ xs) (zero, h, at) l = keeps.joins_left y (total ops xs) (subst Live (sym at) l)
  one_live x (y ∷ xs) (suc k, h, at) l = keeps.joins_right y (total ops xs) (one_live x xs (k, omega arith, at) l)

  module _ (vs : List Visit) (cs : List Crossing) (ways : ℕ → Ways) (start : ℕ → K) where
    brings_live :
        (u v : ℕ) (w : List Edge) → GraphWalk vs cs ways u v w → Live (start u) → Live (brought ops vs (from cs) start v w)
    brings_live u v [] walk l = subst (λ n. Live (start n)) walk l
    brings_live u v (e ∷ w) walk l = keeps.goes_on _ (visit vs v) (brings_live u (from cs e) w walk.2 l)

    -- a walk that starts live makes the sum live where it ends
    pub walk_live :
        (k u v : ℕ) (w : List Edge) → length w ≤ k → GraphWalk vs cs ways u v w → Live (start u)
        → Live (sum_over ops vs (from cs) (to cs) (edges vs cs ways) start k v)
    unfolding sum_over
    walk_live k u v w short walk l =
        let all = graph_walks vs cs ways k v in
        let brings = brought ops vs (from cs) start v in
        let listed = has_map brings all w ((lists_walks vs cs ways k v).all u w short walk) in
        one_live (brings w) (map brings all) listed (brings_live u v w walk l)

    -- where the first visit of its carrier starts live, a visit's sum is
    pub first_live :
        (v : ℕ) → v < length vs
        → ((u : ℕ) → u < length vs → is_start vs u ≡ true → (visit vs u).carrier ≡ (visit vs v).carrier → Live (start u))
        → Live (sum_at ops vs cs ways start v)
    first_live v h live =
        let c = comes_from_first vs cs ways v h in
        walk_live (length vs) c.first v c.way (omega (arith, c.each)) c.leads
        (live c.first (omega (arith, c.each)) c.starts c.own)
