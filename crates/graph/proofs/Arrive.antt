-- Every carrier arrives: the sums over a plan's edges reach its last visit.
use Rattle.std.proofs.Common.{◌≡◌, ℕ, ◌<◌, ◌≤◌, true, eqb, ltb, List, length, is_some, Some, None, Option, sym, refl, ap, ◌∙◌, subst, arith}
use lib.Bits.{bit_or, or_self, or_comm}
use Rattle.std.proofs.lemmas.Bool.{cond-true, cond_both, eqb-true, lt-ltb, false≢true}
use Rattle.record.proofs.Sound.{draft_length}
use Rattle.plan.specs.declared.accepted.Plan.{Plan}
use Rattle.plan.specs.Plans.{plan_draft}
use Rattle.walk.specs.declared.visit.Visit.{Visit}
use Rattle.walk.specs.declared.crossing.Crossing.{Crossing}
use Rattle.walk.specs.Edges.{visit}
use Rattle.walk.specs.Values.{Operations}
use Rattle.walk.specs.Kinds.{larger, one_more, steps, first_step, carrier_bit, with_carrier, sets, own_carrier}
use Rattle.walk.specs.Unions.{or_assoc}
use Rattle.walk.proofs.Carried.{Keeps, first_live}
use Rattle.visit.specs.Visits.{plan_visits, last_visit, LastOf}
use Rattle.visit.proofs.Owned.{last_of}
use Rattle.graph.specs.Graphs.{held}
use Rattle.graph.specs.declared.graph.Graph.{Graph}
use Rattle.graph.specs.Inputs.{starts_in}
use Rattle.graph.specs.Verdicts.{graph_draft, graph_visits, graph_crossings}
use Rattle.graph.proofs.Started.{starts_at}
use Rattle.graph.specs.Figures.{plan_ways, starts, plan_sum, earliest_step, InSet, Arrives}

-- what a carrier's first visit starts with comes to each of its visits, if neither a join nor a step loses it
arrives :
    {K : Type 0} (ops : Operations K) (Live : K → Type 0) → Keeps ops Live
    → (start : Visit → K) (vs : List Visit) (cs : List Crossing) (v : ℕ) → v < length vs
    → ((a : Visit) → a.carrier ≡ (visit vs v).carrier → Live (start a)) → Live (plan_sum ops start vs cs v)
arrives ops Live keeps start vs cs v h live =
    first_live ops Live keeps vs cs plan_ways (starts_in ops.zero (starts ops.zero start vs)) v h
    (λ u l first own. subst Live (sym (starts_at ops.zero start vs u l ∙ cond-true _ _ _ first)) (live (visit vs u) own))

-- ---- earliest steps

abbrev Known : Option ℕ → Type 0
Known a = is_some a ≡ true

larger_left : (a b : Option ℕ) → Known a → Known (larger a b)
larger_left None b h = absurd (false≢true h)
larger_left (Some a) None h = refl
larger_left (Some a) (Some b) h = refl

larger_right : (a b : Option ℕ) → Known b → Known (larger a b)
larger_right None b h = h
larger_right (Some a) None h = refl
larger_right (Some a) (Some b) h = refl

one_more_known : (a : Option ℕ) → Known a → Known (one_more a)
one_more_known None h = h
one_more_known (Some a) h = refl

steps_keep : Keeps steps (λ x. Known x.step)
steps_keep =
    record {
      joins_left = λ x y. larger_left x.step y.step;
      joins_right = λ x y. larger_right x.step y.step;
      goes_on = λ x v. one_more_known x.step;
    }

-- ---- carrier sets

module _ (i : ℕ) where
  union_left : (a b : ℕ) → InSet i a → InSet i (bit_or a b)
  union_left a b h =
      or_assoc a b (carrier_bit i)
      ∙ ap (bit_or a) (or_comm b (carrier_bit i))
      ∙ sym (or_assoc a (carrier_bit i) b)
      ∙ ap (λ s. bit_or s b) h

  union_right : (a b : ℕ) → InSet i b → InSet i (bit_or a b)
  union_right a b h = or_assoc a b (carrier_bit i) ∙ ap (bit_or a) h

  with_another : (s c : ℕ) → InSet i s → InSet i (with_carrier s c)
  with_another s c h =
      cond_both (eqb s 0) 0 (bit_or s (carrier_bit c)) (InSet i)
      (λ none. subst (InSet i) (eqb-true s 0 none) h) (λ _. union_left s (carrier_bit c) h)

  sets_keep : Keeps sets (λ x. InSet i x.bits)
  sets_keep =
      record {
        joins_left = λ x y. union_left x.bits y.bits;
        joins_right = λ x y. union_right x.bits y.bits;
        goes_on = λ x v. with_another x.bits v.carrier;
      }

-- ---- of a plan

-- a plan's carrier has a last visit
held_last : (p : Option Plan) (i : ℕ) → i < (held p).carriers → LastOf (plan_visits (held p)) i (last_visit (held p) i)
held_last None i h = absurd (omega arith)
held_last (Some p) i h =
    let paths = p.paths in
    let listed : (plan_draft p).carriers ≤ length (plan_draft p).entries = omega (arith, draft_length paths, paths.header.listed) in
    last_of (plan_draft p) paths.sound listed i h

module _ (g : Graph) (i : ℕ) (carried : i < (graph_draft g).carriers) where
  abbrev vs : List Visit
  vs = graph_visits g

  abbrev cs : List Crossing
  cs = graph_crossings g

  abbrev last : ℕ
  last = last_visit (graph_draft g) i

  pub graph_last : LastOf (graph_visits g) i (last_visit (graph_draft g) i)
  graph_last =
      let P : List Visit → Type 0 = λ xs. LastOf xs i last in
      subst P (sym g.visited) (held_last g.plan i carried)

  -- every carrier has an earliest step
  earliest_known : is_some (earliest_step (graph_draft g) (graph_visits g) (graph_crossings g) i) ≡ true
  earliest_known =
      let found = (plan_sum steps first_step vs cs last).step in
      let known : Known found =
      arrives steps (λ x. Known x.step) steps_keep first_step vs cs last graph_last.0 (λ a own. refl) in
      ap is_some (cond-true (ltb i (graph_draft g).carriers) found None (lt-ltb _ _ carried)) ∙ known

  -- and is in the set at its last visit
  relied_has :
      InSet i (plan_sum sets own_carrier (graph_visits g) (graph_crossings g) (last_visit (graph_draft g) i)).bits
  relied_has =
      arrives sets (λ x. InSet i x.bits) (sets_keep i) own_carrier vs cs last graph_last.0
      (λ a own. subst (λ c. InSet i (carrier_bit c)) (sym (own ∙ graph_last.1)) (or_self (carrier_bit i)))

  pub graph_arrives : Arrives (graph_draft g) (graph_visits g) (graph_crossings g) i
  graph_arrives = record { last = graph_last; known = earliest_known; own = relied_has }
