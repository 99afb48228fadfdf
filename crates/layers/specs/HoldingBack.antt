-- The hold-back layer as a drive.
use Rattle.std.specs.Prelude.{◌≡◌, ℕ, List, MatchBool}
use Rattle.drive.specs.declared.place.Answer.{Answer}
use Rattle.drive.specs.declared.place.Answer.TheVariants.{NotYet}
use Rattle.drive.specs.declared.place.Place.{Place}
use Rattle.layers.specs.declared.hold_ups.HoldUps.{HoldUps}
use Rattle.layers.specs.Holding.{held_up, restarted, counted}
use Rattle.layers.specs.declared.hold_back.HoldBack.{HoldBack}

module _ {D : Type 0} where
  abbrev pub hold_back : D → HoldUps → HoldBack D
  hold_back d h = record { inner = d; hold_ups = h }

  -- carriers are where they are below
  abbrev pub back_places : (D → List Place) → HoldBack D → List Place
  back_places meaning b = meaning b.inner

  abbrev pub back_sent : (D → ℕ → ℕ → D) → HoldBack D → ℕ → ℕ → HoldBack D
  back_sent sent b c t = hold_back (sent b.inner c t) (restarted b.hold_ups c)

  -- the rule: "not yet" while the movement is held up here, and then as the rule below says
  abbrev pub back_reports : (D → ℕ → Answer → D → Type 0) → HoldBack D → ℕ → Answer → HoldBack D → Type 0
  back_reports reports b c a e =
      MatchBool (held_up b.hold_ups c) ((a ≡ NotYet) × (e ≡ hold_back b.inner (counted b.hold_ups c))) (reports b.inner c a e.inner × (e.hold_ups ≡ b.hold_ups))
