-- The crossings tested one after another.
use Rattle.std.proofs.Common.{◌≡◌, ℕ, ◌+◌, ◌<◌, Bool, true, not, ◌&&◌, List, map, length, set, Decides, sym, refl, ap, ◌∙◌, ⊎_elim, arith, below_more}
use Rattle.std.proofs.Math.Seq.{map-set_same}
use Rattle.std.proofs.lemmas.List.{get_or-set_same, get_or-set_other}
use Rattle.std.proofs.lemmas.Bool.{both_ways, cases_Bool, and_parts, not-true}
use Rattle.walk.specs.declared.visit.Visit.{Visit}
use Rattle.walk.specs.declared.crossing.Crossing.{Crossing}
use Rattle.walk.specs.declared.crossing.Ways.{Ways}
use Rattle.walk.specs.Edges.{Edge, crossing, no_crossing, has_next, is_start}
use Rattle.walk.specs.Walks.{GraphWalk}
use Rattle.walk.specs.Ways.{test_ways, Passes, Tested}
use Rattle.graph.specs.Graphs.{one_way, AllTested}
use Rattle.graph.proofs.Alike.{ways_walk, passes_alike, tested_alike}

module _ (vs : List Visit) (cs : List Crossing) (k : ℕ) (ways : ℕ → Ways) (are : (j : ℕ) → j < length cs → ways j ≡ test_ways cs k j) where
  -- no such walk, and a candidate: the test is passed
  pub test_decides : (r : Bool)
      → Decides r ((w : List Edge) × GraphWalk vs cs ways (crossing cs k).first ((crossing cs k).second + 1) w)
      → (not (is_start vs (crossing cs k).first) && has_next vs (crossing cs k).second) ≡ true → Decides (not r) (Passes vs cs k)
  test_decides r leads can = (passed, refused)
    where
      passed : not r ≡ true → Passes vs cs k
      passed e =
          let (s, n) = and_parts (not (is_start vs (crossing cs k).first)) (has_next vs (crossing cs k).second) can in
          ((not-true _ s, n), λ w h. both_ways r (not-true r e) (leads.1 (w, ways_walk vs cs (test_ways cs k) ways (λ j l. sym (are j l)) (crossing cs k).first ((crossing cs k).second + 1) w h)))

      refused : Passes vs cs k → not r ≡ true
      refused p = ⊎_elim (λ e. let (w, h) = leads.0 e in absurd (p.1 w (ways_walk vs cs ways (test_ways cs k) are (crossing cs k).first ((crossing cs k).second + 1) w h))) (ap not) (cases_Bool r)

-- whether a crossing is two-way does not show in it one-way
one_way_set : (cs : List Crossing) (k : ℕ) (b : Bool) → map one_way (set cs k (record (crossing cs k) { two_way = b })) ≡ map one_way cs
one_way_set cs k b = map-set_same one_way cs k (record (crossing cs k) { two_way = b }) no_crossing refl

-- crossing k is made two-way or not
module _ (vs : List Visit) (cs : List Crossing) (k : ℕ) (b : Bool) where
  abbrev ds : List Crossing
  ds = set cs k (record (crossing cs k) { two_way = b })

  others : (j : ℕ) → (j ≡ k → ⊥) → (crossing cs j).two_way ≡ (crossing ds j).two_way
  others j ne = ap (λ x. x.two_way) (sym (get_or-set_other cs k j (record (crossing cs k) { two_way = b }) no_crossing ne))

  -- by its test, where those before it are tested
  tests_more : k < length cs → AllTested vs cs k → Decides b (Passes vs cs k) → AllTested vs (set cs k (record (crossing cs k) { two_way = b })) (k + 1)
  tests_more there judged decides =
      let alike = one_way_set cs k b in
      let flag : (crossing ds k).two_way ≡ b = ap (λ x. x.two_way) (get_or-set_same cs k (record (crossing cs k) { two_way = b }) no_crossing there) in
      let before = λ (j : ℕ) (l : j < k). others j (λ e. omega arith) in
      below_more (Tested vs ds) k (λ j l. tested_alike vs cs ds j (sym alike) (λ i h. others i (λ e. omega arith)) (judged j l)) (
        λ e. passes_alike vs cs ds (sym alike) k before (decides.0 (sym flag ∙ e)),
        λ p. flag ∙ decides.1 (passes_alike vs ds cs alike k (λ j l. sym (before j l)) p),
      )

-- where the tests of the crossings `all` have come to crossing k
pub record Reaches (vs : List Visit) (all cs : List Crossing) (k : ℕ) : Type 0 where
  pub those : map one_way cs ≡ map one_way all
  pub judged : AllTested vs cs k

pub reaches_more :
    (vs : List Visit) (all cs ds : List Crossing) (k : ℕ) (b : Bool) → Reaches vs all cs k → k < length cs
    → ds ≡ set cs k (record (crossing cs k) { two_way = b }) → Decides b (Passes vs cs k) → Reaches vs all ds (k + 1)
reaches_more vs all cs ds k b at there is decides =
    rw is (record { those = one_way_set cs k b ∙ at.those; judged = tests_more vs cs k b there at.judged decides })
