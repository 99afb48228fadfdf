-- Rounds: each adds the walks of one link more.
use Rattle.std.proofs.Common.{◌≡◌, ℕ, suc, ◌+◌, ◌-◌, ◌<◌, ◌≤◌, cond, List, map, length, get_or, take, set, All, sym, refl, ap, ◌∙◌, subst, ⊎_elim, add-one, arith, eq-eqb, ne_eqb}
use Rattle.std.proofs.lemmas.Bool.{cases_eq}
use Rattle.std.proofs.lemmas.List.Elements.{All-from_get_or}
use Rattle.std.proofs.lemmas.List.{map_more, get_or-set_same, get_or-set_other}
use Rattle.walk.specs.declared.visit.Visit.{Visit}
use Rattle.walk.specs.Edges.{visit}
use Rattle.walk.specs.Values.{Operations, Laws}
use Rattle.walk.specs.Sums.{total, sum_over}
use Rattle.walk.proofs.Sums.{join_zero, total_push, over_same, sum_more, sum_stays}
use Rattle.graph.specs.declared.links.Link.{Link}
use Rattle.graph.specs.Links.{Inside, link_from, link_to}
use Rattle.graph.specs.Rounds.{brings, round_at}

abbrev no_link : Link
no_link = record { from = 0; to = 0 }

abbrev pub link_at : List Link → ℕ → Link
link_at ls i = get_or ls i no_link

module _ {K : Type 0} (ops : Operations K) (laws : Laws ops) (vs : List Visit) (start : List K) where
  -- no link yet
  pub round_none : (values : List K) (ls : List Link) (v : ℕ) → get_or start v ops.zero ≡ round_at ops vs start values (take 0 ls) v
  unfolding round_at
  round_none values ls v = sym (join_zero ops laws (get_or start v ops.zero))

  -- one link more
  round_more : (values : List K) (ls : List Link) (i v : ℕ) → i < length ls → round_at ops vs start values (take (i + 1) ls) v ≡ ops.join (round_at ops vs start values (take i ls) v) (brings ops vs values v (link_at ls i))
  unfolding round_at
  round_more values ls i v h =
      let f : Link → K = brings ops vs values v in
      ap (λ xs. ops.join (get_or start v ops.zero) (total ops xs)) (map_more f ls i (record { from = 0; to = 0 }) h)
      ∙ ap (ops.join (get_or start v ops.zero)) (total_push ops laws (map f (take i ls)) (f (link_at ls i)))
      ∙ sym (laws.assoc (get_or start v ops.zero) (total ops (map f (take i ls))) (f (link_at ls i)))

  -- the write that takes one link in
  pub round_set : (values next : List K) (ls : List Link) (i : ℕ) → i < length ls → (link_at ls i).to < length next → (v : ℕ) → get_or next v ops.zero ≡ round_at ops vs start values (take i ls) v → get_or (set next (link_at ls i).to (ops.join (get_or next (link_at ls i).to ops.zero) (ops.step (get_or values (link_at ls i).from ops.zero) (visit vs (link_at ls i).to)))) v ops.zero ≡ round_at ops vs start values (take (i + 1) ls) v
  round_set values next ls i h inside v old =
      let to : ℕ = (link_at ls i).to in
      let carried : ℕ → K = λ u. ops.step (get_or values (link_at ls i).from ops.zero) (visit vs u) in
      let r : K = ops.join (get_or next to ops.zero) (carried to) in
      let before : ℕ → K = round_at ops vs start values (take i ls) in
      let P : ℕ → Type 0 = λ u. get_or next u ops.zero ≡ before u → get_or (set next to r) u ops.zero ≡ round_at ops vs start values (take (i + 1) ls) u in
      let here : P to = λ was.
      get_or-set_same next to r ops.zero inside
      ∙ ap (λ x. ops.join x (carried to)) was
      ∙ ap (λ b. ops.join (before to) (cond b (carried to) ops.zero)) (sym (eq-eqb to to refl))
      ∙ sym (round_more values ls i to h) in
      let there : (to ≡ v → ⊥) → P v = λ ne was.
      get_or-set_other next to v r ops.zero (λ q. ne (sym q)) ∙ was
      ∙ sym (join_zero ops laws (before v))
      ∙ ap (λ b. ops.join (before v) (cond b (carried v) ops.zero)) (sym (ne_eqb to v ne))
      ∙ sym (round_more values ls i v h) in
      ⊎_elim (λ q. subst P q here) there (cases_eq to v) old

  abbrev sum : List Link → ℕ → ℕ → K
  sum ls = sum_over ops vs link_from link_to ls (λ u. get_or start u ops.zero)

  sources : (n : ℕ) (ls : List Link) → Inside n ls → All (λ l. l.from < n) ls
  sources n ls inside = All-from_get_or (λ l. l.from < n) ls no_link (λ i h. (inside i h).0)

  -- a round over the sums of k links gives those of one link more
  pub round_sum : (values : List K) (ls : List Link) (k n : ℕ) → Inside n ls → ((u : ℕ) → u < n → get_or values u ops.zero ≡ sum_over ops vs link_from link_to ls (λ w. get_or start w ops.zero) k u) → (v : ℕ) → round_at ops vs start values ls v ≡ sum_over ops vs link_from link_to ls (λ w. get_or start w ops.zero) (k + 1) v
  unfolding round_at
  round_sum values ls k n within same v =
      let from : ℕ → K = λ u. get_or start u ops.zero in
      ap (λ xs. ops.join (from v) (total ops xs)) (over_same ops laws vs link_from link_to from ls (λ u. get_or values u ops.zero) (sum ls k) n v ls (sources n ls within) same)
      ∙ sym (sum_more ops laws vs link_from link_to from ls k v)
      ∙ ap (λ j. sum ls j v) (sym (add-one k))

  -- a round that changes nothing is the last
  pub sum_settled : (values next : List K) (ls : List Link) (k n : ℕ) → Inside n ls → k ≤ n → values ≡ next → ((u : ℕ) → u < n → get_or next u ops.zero ≡ round_at ops vs start values ls u) → ((u : ℕ) → u < n → get_or values u ops.zero ≡ sum_over ops vs link_from link_to ls (λ w. get_or start w ops.zero) k u) → (v : ℕ) → v < n → get_or next v ops.zero ≡ sum_over ops vs link_from link_to ls (λ w. get_or start w ops.zero) n v
  sum_settled values next ls k n within le quiet round now v h =
      let here : (u : ℕ) → u < n → get_or next u ops.zero ≡ sum ls k u = λ u l. ap (λ xs. get_or xs u ops.zero) (sym quiet) ∙ now u l in
      let still : (u : ℕ) → u < n → sum ls (suc k) u ≡ sum ls k u =
      λ u l. ap (λ m. sum ls m u) (sym (add-one k)) ∙ sym (round_sum values ls k n within now u) ∙ sym (round u l) ∙ here u l in
      let e : k + (n - k) ≡ n = omega arith in
      here v h
      ∙ sym (sum_stays ops laws vs link_from link_to (λ u. get_or start u ops.zero) ls k n (sources n ls within) still (n - k) v h)
      ∙ ap (λ m. sum ls m v) e
