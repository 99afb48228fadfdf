-- The recorded drive.
use Rattle.std.specs.Prelude.{◌≡◌, ℕ, List, [], ◌∷◌, drop}
use Rattle.drive.specs.declared.place.Answer.{Answer}
use Rattle.drive.specs.declared.place.Answer.TheVariants.{There}
use Rattle.drive.specs.declared.place.Place.{Place}
use Rattle.drive.specs.Calls.{answer_of}
use Rattle.drives.specs.Fleets.{Carriers, gone, answered}

-- where the carriers are, and the bytes that are left
pub record Recording : Type 0 where
  pub fleet : Carriers
  pub bytes : List ℕ

-- the next byte as an answer; the list's end is "there"
abbrev pub next_answer : List ℕ → Answer
next_answer [] = There
next_answer (b ∷ bs) = answer_of b

abbrev pub recorded_places : Recording → List Place
recorded_places d = d.fleet.places

abbrev pub recorded_sent : Recording → ℕ → ℕ → Recording
recorded_sent d c t = record d { fleet = gone d.fleet c t }

-- the next byte is taken, if there is one, and a report on carrier c is answered
abbrev pub recorded_answered : Recording → ℕ → Answer → Recording
recorded_answered d c a = record { fleet = answered d.fleet c a; bytes = drop 1 d.bytes }

-- the rule: the answer is the next byte's
abbrev pub recorded_reports : Recording → ℕ → Answer → Recording → Type 0
recorded_reports d c a e = (a ≡ next_answer d.bytes) × (e ≡ recorded_answered d c a)
