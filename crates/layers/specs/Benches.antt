-- The bench as a drive: a hold-back layer over a fleet.
use Rattle.std.specs.Prelude.{◌≡◌, ◌↔◌, ℕ, Bool, true, false, List, MatchBool, refl}
use Rattle.drive.specs.declared.place.Answer.{Answer}
use Rattle.drive.specs.declared.place.Answer.TheVariants.{There, NotYet}
use Rattle.drive.specs.declared.place.Place.{Place}
use Rattle.drives.specs.Fleets.{Carriers, gone, come, fleet_reports}
use Rattle.layers.specs.declared.hold_back.HoldBack.{HoldBack}
use Rattle.layers.specs.HoldingBack.{hold_back, back_sent, back_reports}
use Rattle.layers.specs.Holding.{restarted, held_up, counted}

abbrev pub bench_places : HoldBack Carriers → List Place
bench_places b = b.inner.places

abbrev pub bench_sent : HoldBack Carriers → ℕ → ℕ → HoldBack Carriers
bench_sent b c t = hold_back (gone b.inner c t) (restarted b.hold_ups c)

-- the rule: "not yet" while the movement is held up, and then "there"
abbrev pub bench_reports : HoldBack Carriers → ℕ → Answer → HoldBack Carriers → Type 0
bench_reports b c a e =
    MatchBool (held_up b.hold_ups c) ((a ≡ NotYet) × (e ≡ hold_back b.inner (counted b.hold_ups c))) ((a ≡ There) × (e ≡ hold_back (come b.inner c) b.hold_ups))

-- This is how the hold-back layer over a fleet sends and reports: the rule of the fleet itself is always "there".
pub sent_by_layer : (b : HoldBack Carriers) (c t : ℕ) → back_sent gone b c t ≡ bench_sent b c t
sent_by_layer b c t = refl

pub reports_by_layer : (b : HoldBack Carriers) (c : ℕ) (a : Answer) (e : HoldBack Carriers) → back_reports fleet_reports b c a e ↔ bench_reports b c a e
reports_by_layer b c a e = past _ (held_up b.hold_ups c)
  where
    past : (P : Type 0) (h : Bool) → MatchBool h P (fleet_reports b.inner c a e.inner × (e.hold_ups ≡ b.hold_ups)) ↔ MatchBool h P ((a ≡ There) × (e ≡ hold_back (come b.inner c) b.hold_ups))
    past P true = (λ p. p, λ p. p)
    past P false = (λ ((is, at), kept). (is, rw (at, kept) refl), λ (is, at). rw at ((is, refl), refl))
