use Rattle.std.proofs.Common.{◌≡◌, length, get_or, arith, rules, sym, ap, ◌∙◌}
use Rattle.std.proofs.lemmas.List.{same_lists, length-map, get_or-map}
use Rattle.fixed.proofs.Filled.{filled}
use Rattle.layers.specs.Holding.{whole}
use Rattle.layers.proofs.hold_ups.HoldUps.new.Goals as goal

pub returns : goal.returns
returns c =
    let ns = c.args.numbers in
    let long : length ns ≡ 16 = search rules in
    let made = c.from_fn.ensures.items in
    ap (λ x. record { each = x }) (same_lists _ _ (omega (arith, long, made.long, length-map ns whole)) (λ k d lt. filled _ (λ i. whole (get_or ns i 0)) _ 16 (λ i y q l k. search rules) _ d made k (omega (arith, lt, made.long)) ∙ sym (get_or-map whole ns k 0 d (omega (arith, lt, made.long, long)))))
