use Rattle.std.proofs.Common.{◌≡◌, ℕ, ◌<◌, length, Bool, true, false, slice_index_or, slice_set, MatchBool, refl, rules}
use Rattle.std.proofs.lemmas.Option.{slice_get-get_or}
use Rattle.std.proofs.lemmas.List.{set-get_or}
use Rattle.layers.specs.declared.hold_ups.HoldUp.{HoldUp}
use Rattle.layers.specs.declared.hold_ups.HoldUps.{HoldUps}
use Rattle.layers.specs.Holding.{once_less, counted}
use Rattle.layers.proofs.hold_ups.HoldUps.hold.Goals as goal

-- to write what `hold` makes of one is what is said of all: it is held up once less, or all is as it was
kept : (h : HoldUps) (i c : ℕ) (v d : HoldUp) (r : Bool) → i ≡ c → i < length h.each → MatchBool r (v ≡ once_less (slice_index_or h.each i d)) (v ≡ slice_index_or h.each i d) → MatchBool r (◌≡◌ {A = HoldUps} (record { each = slice_set h.each i v }) (counted h c)) (◌≡◌ {A = HoldUps} (record { each = slice_set h.each i v }) h)
kept h i c v d true same lt is = rw (← same, slice_get-get_or h.each i d lt, is) refl
kept h i c v d false same lt is = rw (is, set-get_or) refl

pub returns-then-i-lt-MAX_CARRIERS-clause-left : goal.returns-then-i-lt-MAX_CARRIERS-clause-left
returns-then-i-lt-MAX_CARRIERS-clause-left c = kept c.args.self.now _ _ _ _ c.hold.result c.from-i.ensures (search rules) c.hold.ensures.left
