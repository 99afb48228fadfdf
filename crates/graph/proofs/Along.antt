-- Sums over links are sums along the edges that the links are.
use Rattle.std.proofs.Common.{◌≡◌, ℕ, zero, suc, ◌+◌, ◌<◌, true, cond, eqb, ltb, List, [], ◌∷◌, ◌++◌, map, length, take, All, sym, ap, ◌∙◌, arith}
use Rattle.std.specs.List.{range_with_len, flat_map}
use Rattle.std.proofs.lemmas.List.{get_or-take}
use Rattle.std.proofs.lemmas.List.FromFn.{fill_by_all, length-map-range_with_len, get_or-map-range_with_len}
use Rattle.std.proofs.lemmas.List.Elements.{All-map, All-weaker, filter_passes}
use Rattle.std.proofs.lemmas.Bool.{and_parts, ltb-true}
use Rattle.walk.specs.declared.visit.Visit.{Visit}
use Rattle.walk.specs.declared.crossing.Crossing.{Crossing}
use Rattle.walk.specs.declared.crossing.Ways.{Ways}
use Rattle.walk.specs.Edges.{Edge, from, to, is_edge, edges, has_next, visit}
use Rattle.walk.specs.Edges.Edge.{path_edge, plan_edge, reversed_edge}
use Rattle.walk.specs.Values.{Operations, Laws}
use Rattle.walk.specs.Sums.{total, sum_over, sum_at}
use Rattle.walk.proofs.Sums.{over_edge, sum_none, sum_more, sum_starts}
use Rattle.graph.specs.Links.{link, links, link_from, link_to, Within, Inside}
use Rattle.graph.specs.Between.{Between}
use Rattle.graph.specs.Inputs.{starts_in}

pub next_there : (vs : List Visit) (v : ℕ) → has_next vs v ≡ true → v + 1 < length vs
next_there vs v h = ltb-true _ _ (and_parts (ltb (v + 1) (length vs)) _ h).0

module _ (vs : List Visit) (cs : List Crossing) (ways : ℕ → Ways) (between : Between (length vs) cs) where
  -- an edge leads from a visit to a visit
  pub edge_within : (e : Edge) → is_edge vs cs ways e ≡ true → Within (length vs) (link cs e)
  edge_within (path_edge v) h = let n = next_there vs v h in (omega arith, n)
  edge_within (plan_edge k) h = between k (ltb-true _ _ (and_parts (ltb k (length cs)) _ h).0)
  edge_within (reversed_edge k) h =
      let (l, r) = and_parts (ltb k (length cs)) _ h in
      let b = between k (ltb-true _ _ l) in
      (next_there vs _ (and_parts (ways k).reversed _ r).1, omega arith)

  edges_within : All (λ e. Within (length vs) (link cs e)) (edges vs cs ways)
  edges_within =
      All-weaker (λ e. is_edge vs cs ways e ≡ true) (λ e. Within (length vs) (link cs e)) edge_within (edges vs cs ways)
      (filter_passes (is_edge vs cs ways)
      (map path_edge (range_with_len 0 (length vs)) ++ flat_map (λ k. plan_edge k ∷ reversed_edge k ∷ []) (range_with_len 0 (length cs))))

  edges_from : All (λ e. from cs e < length vs) (edges vs cs ways)
  edges_from = All-weaker (λ e. Within (length vs) (link cs e)) (λ e. from cs e < length vs) (λ e w. w.0) (edges vs cs ways) edges_within

  pub links_within : Inside (length vs) (links vs cs ways)
  links_within k h =
      All-map (Within (length vs)) (link cs) (edges vs cs ways) edges_within k (record { from = 0; to = 0 }) h

module _ {K : Type 0} (ops : Operations K) (laws : Laws ops) (vs : List Visit) (cs : List Crossing) (es : List Edge) (start : ℕ → K) where
  over_links : (f g : ℕ → K) → ((u : ℕ) → f u ≡ g u) → (v : ℕ) (fs : List Edge) → map (over_edge ops laws vs link_from link_to start f v) (map (link cs) fs) ≡ map (over_edge ops laws vs (from cs) (to cs) start g v) fs
  over_links f g same v [] = λ i. []
  over_links f g same v (e ∷ fs) =
      λ i. cond (eqb (to cs e) v) (ops.step (same (from cs e) i) (visit vs v)) ops.zero ∷ over_links f g same v fs i

  pub sum_links : (k v : ℕ) → sum_over ops vs link_from link_to (map (link cs) es) start k v ≡ sum_over ops vs (from cs) (to cs) es start k v
  sum_links zero v =
      sum_none ops laws vs link_from link_to start (map (link cs) es) v ∙ sym (sum_none ops laws vs (from cs) (to cs) start es v)
  sum_links (suc k) v =
      sum_more ops laws vs link_from link_to start (map (link cs) es) k v
      ∙ ap (λ xs. ops.join (start v) (total ops xs)) (over_links (sum_over ops vs link_from link_to (map (link cs) es) start k) (sum_over ops vs (from cs) (to cs) es start k) (sum_links k) v es)
      ∙ sym (sum_more ops laws vs (from cs) (to cs) start es k v)

-- of the starting values only those of the visits count
pub starts_cut :
    {K : Type 0} (ops : Operations K) (laws : Laws ops) (vs : List Visit) (cs : List Crossing) (ways : ℕ → Ways) (start : List K) →
    Between (length vs) cs →
    map (sum_at ops vs cs ways (starts_in ops.zero (take (length vs) start))) (range_with_len 0 (length vs)) ≡ map (sum_at ops vs cs ways (starts_in ops.zero start)) (range_with_len 0 (length vs))
starts_cut ops laws vs cs ways start between =
    fill_by_all (sum_at ops vs cs ways (starts_in ops.zero start))
    (map (sum_at ops vs cs ways (starts_in ops.zero (take (length vs) start))) (range_with_len 0 (length vs)))
    (length vs)
    ops.zero
    (length-map-range_with_len (sum_at ops vs cs ways (starts_in ops.zero (take (length vs) start))) 0 (length vs))
    (λ v h.
    get_or-map-range_with_len (sum_at ops vs cs ways (starts_in ops.zero (take (length vs) start))) 0 (length vs) v v ops.zero h (omega arith)
    ∙ sum_starts ops laws vs (from cs) (to cs) (edges vs cs ways) (starts_in ops.zero (take (length vs) start)) (starts_in ops.zero start) (length vs)
    (edges_from vs cs ways between) (λ u l. get_or-take (length vs) start u ops.zero l) (length vs) v h)
