-- What a kind of value is.
use Rattle.std.specs.Prelude.{◌≡◌}
use Rattle.walk.specs.declared.visit.Visit.{Visit}

-- the value that stands for nothing, the join of two, and what becomes of a value as it enters a visit
pub record Operations (K : Type 0) : Type 0 where
  pub zero : K
  pub join : K → K → K
  pub step : K → Visit → K

-- What sums along walks rest on: a sum counts each walk once, so whether a value joined with itself stays the same does not matter.
pub record Laws {K : Type 0} (ops : Operations K) : Type 0 where
  pub assoc : (x y z : K) → ops.join (ops.join x y) z ≡ ops.join x (ops.join y z)
  pub comm : (x y : K) → ops.join x y ≡ ops.join y x
  pub zero_join : (x : K) → ops.join ops.zero x ≡ x
  pub step_zero : (v : Visit) → ops.step ops.zero v ≡ ops.zero
  pub step_join : (x y : K) (v : Visit) → ops.step (ops.join x y) v ≡ ops.join (ops.step x v) (ops.step y v)

abbrev pub Idempotent : {K : Type 0} → Operations K → Type 0
Idempotent {K} ops = (x : K) → ops.join x x ≡ x
