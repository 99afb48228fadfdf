use Rattle.std.proofs.Common.{sym, refl, arith}
use lib.Seq.{take-set-lt}
use Rattle.std.proofs.lemmas.List.{set_past, length-take}
use Rattle.fixed.specs.Items.{with_item}
use Rattle.fixed.proofs.Held.{items_count, same_list}
use Rattle.fixed.proofs.list.Bounded.set.Goals as goal

pub returns-then-at-self : goal.returns-then-at-self
unfolding with_item
returns-then-at-self g c =
    let l = c.args.self.now in
    record {
      items = take-set-lt _ _ _ _ c.if-at-self.true;
      there = λ _. same_list _ _ (with_item l c.args.at c.args.item) refl refl;
      past = λ h. absurd (omega (arith, h, items_count l, c.if-at-self.true));
    }

pub returns-else-at-self : goal.returns-else-at-self
returns-else-at-self g c =
    let l = c.args.self.now in
    record {
      items = sym (set_past _ _ _ (simp length-take (omega (arith, c.if-at-self.false))));
      there = λ h. absurd (omega (arith, h, items_count l, c.if-at-self.false));
      past = λ _. refl;
    }
