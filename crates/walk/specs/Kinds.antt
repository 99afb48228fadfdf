-- The three kinds of value.
use Rattle.std.specs.Prelude.{ℕ, ◌+◌, ◌^◌, min, max, Bool, false, cond, ◌||◌, Some, None, Option, ◌==◌, bit_or, nat_lt}
use Rattle.walk.specs.declared.visit.Visit.{Visit}
use Rattle.walk.specs.declared.kinds.Mark.{Mark}
use Rattle.walk.specs.declared.kinds.Earliest.{Earliest}
use Rattle.walk.specs.declared.kinds.CarrierSet.{CarrierSet}
use Rattle.walk.specs.Values.{Operations}

-- marks: no, or, and a step keeps the value
abbrev pub mark : Bool → Mark
mark b = record { set = b }

abbrev pub marks : Operations Mark
marks = record { zero = mark false; join = λ x y. mark (x.set || y.set); step = λ x v. x }

-- earliest steps: none, the larger, and a step adds one up to 65,535
abbrev pub earliest : Option ℕ → Earliest
earliest o = record { step = o }

abbrev pub larger : Option ℕ → Option ℕ → Option ℕ
larger None b = b
larger (Some a) None = Some a
larger (Some a) (Some b) = Some (max a b)

abbrev pub one_more : Option ℕ → Option ℕ
one_more None = None
one_more (Some a) = Some (min (a + 1) 65535)

abbrev pub steps : Operations Earliest
steps =
    record {
      zero = earliest None;
      join = λ x y. earliest (larger x.step y.step);
      step = λ x v. earliest (one_more x.step);
    }

-- on a first visit they start at 0
abbrev pub first_step : Visit → Earliest
first_step v = earliest (Some 0)

-- carrier sets, a bit for each of the sixteen carriers: empty, union, and a step adds the carrier that enters, unless the set is empty
abbrev pub carrier_set : ℕ → CarrierSet
carrier_set n = record { bits = n }

abbrev pub carrier_bit : ℕ → ℕ
carrier_bit c = cond (nat_lt c 16) (2 ^ c) 0

abbrev pub with_carrier : ℕ → ℕ → ℕ
with_carrier s c = cond (s == 0) 0 (bit_or s (carrier_bit c))

abbrev pub sets : Operations CarrierSet
sets =
    record {
      zero = carrier_set 0;
      join = λ x y. carrier_set (bit_or x.bits y.bits);
      step = λ x v. carrier_set (with_carrier x.bits v.carrier);
    }

-- on a first visit they start with the own carrier
abbrev pub own_carrier : Visit → CarrierSet
own_carrier v = carrier_set (carrier_bit v.carrier)
