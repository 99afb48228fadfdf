-- A fleet: where its carriers are, and what sends and reports make of it.
use Rattle.std.specs.Prelude.{◌≡◌, ℕ, ◌≤◌, List, length, Some, None, Option, Result, slice_set}
use Rattle.std.proofs.Common.{sym, subst, length-set}
use Rattle.std.specs.List.{slice_get}
use Rattle.fault.specs.declared.kinds.DriveFault.{DriveFault}
use Rattle.drive.specs.declared.place.Answer.{Answer}
use Rattle.drive.specs.declared.place.Answer.TheVariants.{There, NotYet}
use Rattle.drive.specs.declared.place.Place.{Place}
use Rattle.drive.specs.declared.place.Place.TheVariants.{Standing, Going}
use Rattle.drive.specs.Calls.{told, settled, RefusedOr}
use Rattle.drive.specs.Refusals.{destination}

-- where the carriers are, of which there are at most 16
pub record Carriers : Type 0 where
  pub places : List Place
  pub few : length places ≤ 16

-- another place for one of them makes them no more
pub few_set : (ps : List Place) (c : ℕ) (p : Place) → length ps ≤ 16 → length (slice_set ps c p) ≤ 16
few_set ps c p few = subst (λ n. n ≤ 16) (sym (length-set ps c p)) few

-- carrier c is in another place
abbrev pub with_place : Carriers → ℕ → Place → Carriers
with_place f c p = record { places = slice_set f.places c p; few = few_set f.places c p f.few }

-- the cell in which a carrier stands or which it has left, and that in which it stands or to which it goes
abbrev pub source : Option Place → ℕ
source None = 0
source (Some (Standing a)) = a
source (Some (Going a b)) = a

abbrev pub target : Option Place → ℕ
target None = 0
target (Some (Standing a)) = a
target (Some (Going a b)) = b

-- carrier c is sent to cell t
abbrev pub gone : Carriers → ℕ → ℕ → Carriers
gone f c t = with_place f c (Going (source (slice_get f.places c)) t)

-- carrier c is there
abbrev pub come : Carriers → ℕ → Carriers
come f c = with_place f c (Standing (target (slice_get f.places c)))

-- a report on carrier c is answered
abbrev pub answered : Carriers → ℕ → Answer → Carriers
answered f c There = come f c
answered f c NotYet = f

-- a report on carrier c that is given the answer a, if it is not refused
abbrev pub Answered : Carriers → ℕ → Answer → Result Unit DriveFault → Carriers → Type 0
Answered f c a r e =
    RefusedOr (destination (slice_get f.places c) c) (λ b x y. (x ≡ told c a) × (y ≡ answered f c a) × (y.places ≡ settled f.places c b a)) f r e

-- the rule: always "there"
abbrev pub fleet_reports : Carriers → ℕ → Answer → Carriers → Type 0
fleet_reports f c a e = (a ≡ There) × (e ≡ come f c)
