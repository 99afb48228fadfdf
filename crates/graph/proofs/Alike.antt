-- Graphs that differ in what does not matter to a walk.
use Rattle.std.proofs.Common.{◌≡◌, ℕ, ◌+◌, ◌<◌, ◌≤◌, Bool, cond, not, ◌&&◌, eqb, ltb, List, [], ◌∷◌, ◌++◌, map, length, get_or, filter, sym, refl, ap, ◌∙◌, subst, ⊎_elim, arith}
use Rattle.std.specs.List.{range_with_len, flat_map}
use Rattle.std.proofs.Math.ListN.{get_or-map}
use Rattle.std.proofs.lemmas.List.{length-map}
use Rattle.std.proofs.lemmas.Bool.{cases_lt, le-ltb}
use Rattle.walk.specs.declared.visit.Visit.{Visit}
use Rattle.walk.specs.declared.crossing.Crossing.{Crossing}
use Rattle.walk.specs.declared.crossing.Ways.{Ways}
use Rattle.walk.specs.Edges.{Edge, from, to, is_edge, edges, has_next, crossing, no_crossing}
use Rattle.walk.specs.Edges.Edge.{path_edge, plan_edge, reversed_edge}
use Rattle.walk.specs.Walks.{GraphWalk}
use Rattle.walk.specs.Ways.{Candidate, test_ways, TestWalk, Passes, Tested}
use Rattle.walk.proofs.Timely.{Timely}
use Rattle.graph.specs.Graphs.{one_way}

-- ---- ways that agree at every crossing there is

module _ (vs : List Visit) (cs : List Crossing) (ways others : ℕ → Ways) (same : (k : ℕ) → k < length cs → ways k ≡ others k) where
  -- a test of the ways at k counts only where crossing k is there
  there_same : (P : Ways → Bool) (k : ℕ) → (ltb k (length cs) && P (ways k)) ≡ (ltb k (length cs) && P (others k))
  there_same P k =
      ⊎_elim (λ l. ap (λ w. ltb k (length cs) && P w) (same k l))
      (λ l. ap (λ b. b && P (ways k)) (le-ltb k (length cs) l) ∙ sym (ap (λ b. b && P (others k)) (le-ltb k (length cs) l)))
      (cases_lt k (length cs))

  edge_same : (e : Edge) → is_edge vs cs ways e ≡ is_edge vs cs others e
  edge_same (path_edge v) = refl
  edge_same (plan_edge k) = there_same (λ w. w.plan) k
  edge_same (reversed_edge k) = there_same (λ w. w.reversed && has_next vs (crossing cs k).second) k

  kept_same : (es : List Edge) → filter (is_edge vs cs ways) es ≡ filter (is_edge vs cs others) es
  kept_same [] = refl
  kept_same (e ∷ es) = λ i. cond (edge_same e i) (e ∷ kept_same es i) (kept_same es i)

  pub edges_same : edges vs cs ways ≡ edges vs cs others
  edges_same =
      kept_same (map path_edge (range_with_len 0 (length vs)) ++ flat_map (λ k. plan_edge k ∷ reversed_edge k ∷ []) (range_with_len 0 (length cs)))

  -- the same walks, then
  pub ways_walk : (u v : ℕ) (w : List Edge) → GraphWalk vs cs ways u v w → GraphWalk vs cs others u v w
  ways_walk u v [] h = h
  ways_walk u v (e ∷ w) (i, t, h) = (sym (edge_same e) ∙ i, t, ways_walk u (from cs e) w h)

-- ---- crossings that differ only in which are two-way

pub get_or_one_way : (cs : List Crossing) (k : ℕ) → get_or (map one_way cs) k no_crossing ≡ one_way (crossing cs k)
get_or_one_way cs k = get_or-map one_way cs k no_crossing

module _ (cs ds : List Crossing) (alike : map one_way cs ≡ map one_way ds) where
  pub shapes : (k : ℕ) → one_way (crossing cs k) ≡ one_way (crossing ds k)
  shapes k = sym (get_or_one_way cs k) ∙ ap (λ xs. get_or xs k no_crossing) alike ∙ get_or_one_way ds k

  pub firsts : (k : ℕ) → (crossing cs k).first ≡ (crossing ds k).first
  firsts k = ap (λ x. x.first) (shapes k)

  pub seconds : (k : ℕ) → (crossing cs k).second ≡ (crossing ds k).second
  seconds k = ap (λ x. x.second) (shapes k)

  pub lengths : length cs ≡ length ds
  lengths = sym (length-map cs one_way) ∙ ap length alike ∙ length-map ds one_way

  froms : (e : Edge) → from cs e ≡ from ds e
  froms (path_edge v) = refl
  froms (plan_edge k) = ap (λ n. n + 1) (firsts k)
  froms (reversed_edge k) = ap (λ n. n + 1) (seconds k)

  tos : (e : Edge) → to cs e ≡ to ds e
  tos (path_edge v) = refl
  tos (plan_edge k) = seconds k
  tos (reversed_edge k) = firsts k

  module _ (vs : List Visit) where
    pub timely_alike : Timely vs cs → Timely vs ds
    timely_alike t =
        record {
          later = t.later;
          second_there = λ k h. rw (← seconds k) (t.second_there k (omega (arith, lengths)));
          first_leaves = λ k h. rw (← firsts k) (t.first_leaves k (omega (arith, lengths)));
          clear = λ k h. rw (← firsts k, ← seconds k) (t.clear k (omega (arith, lengths)));
        }

    pub candidate_alike : (k : ℕ) → Candidate vs cs k → Candidate vs ds k
    candidate_alike k (s, n) = (rw (← firsts k) s, rw (← seconds k) n)

    edges_alike : (ways : ℕ → Ways) (e : Edge) → is_edge vs cs ways e ≡ is_edge vs ds ways e
    edges_alike ways (path_edge v) = refl
    edges_alike ways (plan_edge k) = λ i. ltb k (lengths i) && (ways k).plan
    edges_alike ways (reversed_edge k) = λ i. ltb k (lengths i) && ((ways k).reversed && has_next vs (seconds k i))

    walk_alike : (ways : ℕ → Ways) (u v : ℕ) (w : List Edge) → GraphWalk vs cs ways u v w → GraphWalk vs ds ways u v w
    walk_alike ways u v [] h = h
    walk_alike ways u v (e ∷ w) (i, t, h) =
        let P : ℕ → Type 0 = λ x. GraphWalk vs ds ways u x w in
        (sym (edges_alike ways e) ∙ i, sym (tos e) ∙ t, subst P (froms e) (walk_alike ways u (from cs e) w h))

    -- the test of crossing k asks only which crossings before it are two-way
    module _ (k : ℕ) (before : (j : ℕ) → j < k → (crossing cs j).two_way ≡ (crossing ds j).two_way) where
      ways_alike : (j : ℕ) → test_ways cs k j ≡ test_ways ds k j
      ways_alike j =
          λ i. record {
            plan = not (eqb j k);
            reversed = ⊎_elim (λ l. ap (λ b. ltb j k && b) (before j l)) (λ l. ap (λ b. b && (crossing cs j).two_way) (le-ltb j k l) ∙ sym (ap (λ b. b && (crossing ds j).two_way) (le-ltb j k l))) (cases_lt j k) i;
          }

      pub test_alike : (w : List Edge) → TestWalk vs cs k w → TestWalk vs ds k w
      test_alike w h =
          let P : ℕ → ℕ → Type 0 = λ u v. GraphWalk vs ds (test_ways ds k) u (v + 1) w in
          let moved : GraphWalk vs cs (test_ways ds k) (crossing cs k).first ((crossing cs k).second + 1) w =
          ways_walk vs cs (test_ways cs k) (test_ways ds k) (λ j l. ways_alike j) _ _ w h in
          subst (λ u. P u (crossing ds k).second) (firsts k) (subst (P (crossing cs k).first) (seconds k) (walk_alike (test_ways ds k) _ _ w moved))

-- whether crossing k passes the test depends on the shapes and on which crossings before it are two-way
pub passes_alike : (vs : List Visit) (cs ds : List Crossing) → map one_way cs ≡ map one_way ds
    → (k : ℕ) → ((j : ℕ) → j < k → (crossing cs j).two_way ≡ (crossing ds j).two_way) → Passes vs cs k → Passes vs ds k
passes_alike vs cs ds alike k before (can, free) =
    (candidate_alike cs ds alike vs k can, λ w h. free w (test_alike ds cs (sym alike) vs k (λ j l. sym (before j l)) w h))

pub tested_alike : (vs : List Visit) (cs ds : List Crossing) (k : ℕ) → map one_way cs ≡ map one_way ds
    → ((j : ℕ) → j ≤ k → (crossing cs j).two_way ≡ (crossing ds j).two_way) → Tested vs cs k → Tested vs ds k
tested_alike vs cs ds k alike same t =
    let here = same k (omega arith) in (
      λ e. passes_alike vs cs ds alike k (λ j l. same j (omega arith)) (t.0 (here ∙ e)),
      λ p. sym here ∙ t.1 (passes_alike vs ds cs (sym alike) k (λ j l. sym (same j (omega arith))) p),
    )
