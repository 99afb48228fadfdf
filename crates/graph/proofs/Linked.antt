-- Links one after another, and the edges that they are.
use Rattle.std.proofs.Common.{◌≡◌, ℕ, ◌+◌, ◌*◌, ◌<◌, ◌≤◌, Bool, true, false, cond, ◌&&◌, ltb, Option, Some, None, List, [], ◌∷◌, ◌++◌, map, length, get_or, filter, All, sym, refl, ap, ◌∙◌, arith}
use Rattle.std.specs.List.{range_with_len, cons_option, filter_map, flat_map}
use Rattle.std.specs.Option.{option_to_list}
use Rattle.std.proofs.lemmas.List.Concat.{length-flat_map}
use Rattle.std.proofs.lemmas.List.FromFn.{length-range_with_len}
use Rattle.std.proofs.lemmas.List.Sums.{sum_by-le}
use Rattle.std.proofs.lemmas.List.Elements.{All-tail, filter-append}
use Rattle.std.proofs.lemmas.List.{length-append, append_assoc, map-append}
use Rattle.std.proofs.lemmas.Bool.{lt-ltb}
use Rattle.fixed.proofs.Counting.{one_more}
use Rattle.walk.proofs.Lists.{all_below}
use Rattle.walk.specs.declared.visit.Visit.{Visit}
use Rattle.walk.specs.declared.crossing.Crossing.{Crossing}
use Rattle.walk.specs.declared.crossing.Ways.{Ways}
use Rattle.walk.specs.Edges.{Edge, is_edge, has_next, crossing}
use Rattle.walk.specs.Edges.Edge.{path_edge, plan_edge, reversed_edge}
use Rattle.graph.specs.declared.links.Link.{Link}
use Rattle.graph.specs.Links.{link, links, path_link, plan_link, reversed_link, crossing_links}

cons_few : {X : Type 0} (o : Option X) (xs : List X) → length (cons_option o xs) ≤ length xs + 1
cons_few None xs = omega arith
cons_few (Some x) xs = omega arith

-- a filter_map gives no more than it is given
kept_few : {X Y : Type 0} (f : X → Option Y) (xs : List X) → length (filter_map f xs) ≤ length xs
kept_few f [] = omega arith
kept_few f (x ∷ xs) = omega (arith, cons_few (f x) (filter_map f xs), kept_few f xs)

pub one_few : {X : Type 0} (o : Option X) → length (option_to_list o) ≤ 1
one_few None = omega arith
one_few (Some x) = omega arith

-- a crossing has two links at most
crossing_few : (vs : List Visit) (cs : List Crossing) (ways : ℕ → Ways) (k : ℕ) → length (crossing_links vs cs ways k) ≤ 2
crossing_few vs cs ways k =
    let plan = plan_link (crossing cs k) (ways k) in
    let back = reversed_link vs (crossing cs k) (ways k) in
    omega (arith, length-append (option_to_list plan) (option_to_list back), one_few plan, one_few back)

pub path_few : (vs : List Visit) (n : ℕ) → length (filter_map (path_link vs) (range_with_len 0 n)) ≤ n
path_few vs n = omega (arith, kept_few (path_link vs) (range_with_len 0 n), length-range_with_len 0 n)

module _ (vs : List Visit) (cs : List Crossing) (ways : ℕ → Ways) where
  crossings_few : (n : ℕ) → length (flat_map (crossing_links vs cs ways) (range_with_len 0 n)) ≤ 2 * n
  crossings_few n =
      let ks = range_with_len 0 n in
      omega (
        arith,
        length-flat_map (crossing_links vs cs ways) ks,
        sum_by-le (λ k. length (crossing_links vs cs ways k)) 2 ks (λ k d l. crossing_few vs cs ways (get_or ks k d)),
        length-range_with_len 0 n,
      )

  -- before a crossing's links are added there is room for both
  pub room_left : (paths before : List Link) (k : ℕ)
      → paths ≡ filter_map (path_link vs) (range_with_len 0 (length vs))
      → before ≡ paths ++ flat_map (crossing_links vs cs ways) (range_with_len 0 k)
      → k < length cs → length vs ≤ 512 → length cs ≤ 1024 → length before + 1 < 2560
  room_left paths before k are was h few held =
      omega (
        arith,
        ap length was,
        length-append paths (flat_map (crossing_links vs cs ways) (range_with_len 0 k)),
        crossings_few k,
        ap length are,
        path_few vs (length vs),
      )

  -- a turn of a loop that adds a crossing's links
  pub crossing_more : (k : ℕ) (old before mid after : List Link) (x : Crossing) (taken : Ways)
      → x ≡ crossing cs k → taken ≡ ways k
      → before ≡ old ++ flat_map (crossing_links vs cs ways) (range_with_len 0 k)
      → mid ≡ before ++ option_to_list (plan_link x taken)
      → after ≡ mid ++ option_to_list (reversed_link vs x taken)
      → after ≡ old ++ flat_map (crossing_links vs cs ways) (range_with_len 0 (k + 1))
  crossing_more k old before mid after x taken here way was one two =
      one_more (crossing_links vs cs ways) k old before after was
      (two ∙ ap (λ l. l ++ option_to_list (reversed_link vs x taken)) one
      ∙ append_assoc before (option_to_list (plan_link x taken)) (option_to_list (reversed_link vs x taken))
      ∙ (λ i. before ++ (option_to_list (plan_link (here i) (way i)) ++ option_to_list (reversed_link vs (here i) (way i)))))

kept_one : {X Y : Type 0} (g : X → Y) (b : Bool) (x : X) (ys : List X)
    → map g (cond b (x ∷ ys) ys) ≡ cons_option (cond b (Some (g x)) None) (map g ys)
kept_one g true x ys = refl
kept_one g false x ys = refl

cons_first : {X : Type 0} (o : Option X) (xs : List X) → option_to_list o ++ xs ≡ cons_option o xs
cons_first None xs = refl
cons_first (Some x) xs = refl

module _ (vs : List Visit) (cs : List Crossing) (ways : ℕ → Ways) where
  path_part : (ns : List ℕ) → filter_map (path_link vs) ns ≡ map (link cs) (filter (is_edge vs cs ways) (map path_edge ns))
  path_part [] = refl
  path_part (v ∷ ns) =
      ap (cons_option (path_link vs v)) (path_part ns)
      ∙ sym (kept_one (link cs) (has_next vs v) (path_edge v) (filter (is_edge vs cs ways) (map path_edge ns)))

  -- what is kept of a crossing that is there
  two_kept : (k : ℕ) (b : Bool) (rest : List Edge) → b ≡ true
      → crossing_links vs cs ways k ++ map (link cs) rest
      ≡ map (link cs) (cond (b && (ways k).plan) (plan_edge k ∷ cond (b && ((ways k).reversed && has_next vs (crossing cs k).second)) (reversed_edge k ∷ rest) rest) (cond (b && ((ways k).reversed && has_next vs (crossing cs k).second)) (reversed_edge k ∷ rest) rest))
  two_kept k b rest there =
      let back : Bool = (ways k).reversed && has_next vs (crossing cs k).second in
      let after : List Edge = cond back (reversed_edge k ∷ rest) rest in
      let plan = plan_link (crossing cs k) (ways k) in
      let turned = reversed_link vs (crossing cs k) (ways k) in
      append_assoc (option_to_list plan) (option_to_list turned) (map (link cs) rest)
      ∙ ap (λ r. option_to_list plan ++ r) (cons_first turned (map (link cs) rest) ∙ sym (kept_one (link cs) back (reversed_edge k) rest))
      ∙ cons_first plan (map (link cs) after)
      ∙ sym (kept_one (link cs) (ways k).plan (plan_edge k) after)
      ∙ ap (λ t. map (link cs) (cond (t && (ways k).plan) (plan_edge k ∷ cond (t && back) (reversed_edge k ∷ rest) rest) (cond (t && back) (reversed_edge k ∷ rest) rest))) (sym there)

  crossing_part : (ns : List ℕ) → All (λ k. k < length cs) ns → flat_map (crossing_links vs cs ways) ns ≡ map (link cs) (filter (is_edge vs cs ways) (flat_map (λ k. plan_edge k ∷ reversed_edge k ∷ []) ns))
  crossing_part [] there = refl
  crossing_part (k ∷ ns) there =
      ap (λ r. crossing_links vs cs ways k ++ r) (crossing_part ns (All-tail (λ j. j < length cs) k ns there))
      ∙ two_kept k (ltb k (length cs)) (filter (is_edge vs cs ways) (flat_map (λ j. plan_edge j ∷ reversed_edge j ∷ []) ns)) (lt-ltb _ _ (there 0 k (omega arith)))

  -- links along paths and then at crossings are the edges
  pub links_are : filter_map (path_link vs) (range_with_len 0 (length vs)) ++ flat_map (crossing_links vs cs ways) (range_with_len 0 (length cs)) ≡ links vs cs ways
  links_are =
      let paths : List Edge = map path_edge (range_with_len 0 (length vs)) in
      let crossed : List Edge = flat_map (λ k. plan_edge k ∷ reversed_edge k ∷ []) (range_with_len 0 (length cs)) in
      (λ i. path_part (range_with_len 0 (length vs)) i ++ crossing_part (range_with_len 0 (length cs)) (all_below (length cs)) i)
      ∙ sym (map-append (link cs) (filter (is_edge vs cs ways) paths) (filter (is_edge vs cs ways) crossed))
      ∙ ap (map (link cs)) (sym (filter-append (is_edge vs cs ways) paths crossed))
