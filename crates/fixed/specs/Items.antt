-- What a list of bounded length holds.
use Rattle.std.specs.Prelude.{ℕ, List, take, slice_set}
use Rattle.std.proofs.Common.{◌∙◌, length-set}
use Rattle.fixed.specs.declared.list.Bounded.{Bounded}

abbrev pub items : {T : Type 0} {N : ℕ} → Bounded T N → List T
items l = take l.count l.slots

-- the list with another item at i
unfoldable pub with_item : {T : Type 0} {N : ℕ} → Bounded T N → ℕ → T → Bounded T N
with_item l i x = record { slots = slice_set l.slots i x; count = l.count; room = length-set l.slots i x ∙ l.room; few = l.few }
