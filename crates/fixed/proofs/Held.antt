-- How many items a list of bounded length holds.
use Rattle.std.proofs.Common.{◌≡◌, ℕ, ◌≤◌, List, length, ap, subst, arith}
use denote.Struct.Props.{props}
use Rattle.std.proofs.lemmas.List.{length-take-le}
use Rattle.fixed.specs.declared.list.Bounded.{Bounded}
use Rattle.fixed.specs.Items.{items}

pub items_count : {T : Type 0} {N : ℕ} (l : Bounded T N) → length (items l) ≡ l.count
items_count l = length-take-le l.count l.slots (omega (arith, l.room, l.few))

pub items_few : {T : Type 0} {N : ℕ} (l : Bounded T N) → length (items l) ≤ N
items_few l = omega (arith, items_count l, l.few)

-- a list is its slots and its count, since what its ghost fields say has one proof at most
module _ {T : Type 0} (N : ℕ) where
  abbrev Kept : List T → ℕ → Type 0
  Kept xs n = (length xs ≡ N) × (n ≤ N)

  abbrev listed : (xs : List T) (n : ℕ) → Kept xs n → Bounded T N
  listed xs n o = record { slots = xs; count = n; room = o.0; few = o.1 }

  one_proof : (xs : List T) (n : ℕ) → IsProp (Kept xs n)
  one_proof xs n = hlevel props

  same_listed : (xs ys : List T) (m n : ℕ) (o : Kept xs m) (p : Kept ys n) → xs ≡ ys → m ≡ n → listed xs m o ≡ listed ys n p
  same_listed xs ys m n o p e f =
      subst (λ (y : List T × ℕ). (q : Kept y.0 y.1) → listed xs m o ≡ listed y.0 y.1 q) (λ i. (e i, f i)) (λ q. ap (listed xs m) (one_proof xs m o q)) p

  pub same_list : (a b : Bounded T N) → a.slots ≡ b.slots → a.count ≡ b.count → a ≡ b
  same_list a b e f = same_listed a.slots b.slots a.count b.count (a.room, a.few) (b.room, b.few) e f
