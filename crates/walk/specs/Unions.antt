-- Unions of sets of carriers, as bits.
use Rattle.std.specs.Prelude.{◌≡◌, ℕ, zero, suc, ◌≢◌, bit_or, refl}
use Rattle.std.proofs.Common.{sym, ap, ◌∙◌, ne_eqb, arith}
use Rattle.std.proofs.Math.Dec.{eqb-suc-zero}
use Rattle.std.proofs.lemmas.Nat.{le_or_l}
use Rattle.std.proofs.lemmas.Nat.Bits.{bit_at_or, same_from_bits}
use Rattle.std.specs.Int.Bits.{or_zero_r}
use Rattle.walk.specs.Kinds.{carrier_bit, with_carrier}

pub or_assoc : (a b c : ℕ) → bit_or (bit_or a b) c ≡ bit_or a (bit_or b c)
or_assoc a b c =
    same_from_bits _ _
    (λ i. omega (arith, bit_at_or (bit_or a b) c i, bit_at_or a b i, bit_at_or a (bit_or b c) i, bit_at_or b c i))

or_spread : (a b m : ℕ) → bit_or (bit_or a b) m ≡ bit_or (bit_or a m) (bit_or b m)
or_spread a b m =
    same_from_bits _ _
    (λ i.
    omega (
      arith,
      bit_at_or (bit_or a b) m i,
      bit_at_or a b i,
      bit_at_or (bit_or a m) (bit_or b m) i,
      bit_at_or a m i,
      bit_at_or b m i,
    ))

or_some : (a b : ℕ) → bit_or (suc a) b ≢ 0
or_some a b e = omega (arith, le_or_l (suc a) b)

pub with_union : (a b c : ℕ) → with_carrier (bit_or a b) c ≡ bit_or (with_carrier a c) (with_carrier b c)
with_union zero b c = refl
with_union (suc a) zero c = ap (λ s. with_carrier s c) (or_zero_r (suc a)) ∙ sym (or_zero_r (with_carrier (suc a) c))
with_union (suc a) (suc b) c =
    rw (ne_eqb (bit_or (suc a) (suc b)) 0 (or_some a (suc b)), eqb-suc-zero a, eqb-suc-zero b)
    (or_spread (suc a) (suc b) (carrier_bit c))
