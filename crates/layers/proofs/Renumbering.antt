-- A section and the drive below it: a carrier's two numbers, and what becomes of an answer.
use Rattle.std.proofs.Common.{◌≡◌, ℕ, ◌+◌, ◌<◌, List, length, take, drop, set, Some, None, Ok, Err, Option, Result, sym, refl, ap, ◌∙◌, arith}
use Rattle.std.specs.List.{slice_get}
use Rattle.std.proofs.lemmas.Bool.Decides.{nat_tests}
use Rattle.std.proofs.Math.Seq.{take-set-lt}
use Rattle.std.proofs.lemmas.List.{drop-set-add, length-take, length-drop, get_or-take, get_or-drop}
use Rattle.std.proofs.lemmas.Option.{slice_get-get_or}
use Rattle.fault.specs.declared.kinds.DriveFault.{DriveFault}
use Rattle.drive.specs.declared.place.Answer.{Answer}
use Rattle.drive.specs.declared.place.Answer.TheVariants.{There, NotYet}
use Rattle.drive.specs.declared.place.Place.{Place}
use Rattle.drive.specs.declared.place.Place.TheVariants.{Standing, Going}
use Rattle.drive.specs.Calls.{told, settled, RefusedOr, Goes, Sent, Tells, Reported}
use Rattle.drive.specs.Refusals.{departure, destination}
use Rattle.layers.specs.declared.section.Section.{Section}
use Rattle.layers.specs.Sections.{restated, part, section, part_places, part_sent, part_reports}

-- a carrier that is shown is one of the first n, and its number below is within the list below
within : (f n : ℕ) (ps : List Place) (c : ℕ) → c < length (part f n ps) → (c < n) × (f + c < length ps)
within f n ps c h = grind (arith, length-take, length-drop)

-- it is where the drive below has it
pub part_read : (f n : ℕ) (ps : List Place) (c : ℕ) → c < length (part f n ps) → slice_get (part f n ps) c ≡ slice_get ps (f + c)
part_read f n ps c h =
    let w = within f n ps c h in
    slice_get-get_or (part f n ps) c (Standing 0) h
    ∙ ap Some (get_or-take n (drop f ps) c (Standing 0) w.0 ∙ get_or-drop f ps c (Standing 0))
    ∙ sym (slice_get-get_or ps (f + c) (Standing 0) w.1)

-- to put it elsewhere is to put it there below
pub part_set : (f n : ℕ) (ps : List Place) (c : ℕ) (p : Place) → c < length (part f n ps) → part f n (set ps (f + c) p) ≡ set (part f n ps) c p
part_set f n ps c p h = ap (take n) (drop-set-add f ps c p) ∙ take-set-lt n (drop f ps) c p (within f n ps c h).0

-- a send, a report and an answer are the same of both numbers, but for the number that a fault names
pub departs : (o : Option Place) (k c t : ℕ) → restated c (departure o k t) ≡ departure o c t
departs None k c t = refl
departs (Some (Standing a)) k c t = grind (arith, nat_tests)
departs (Some (Going a b)) k c t = grind (arith, nat_tests)

pub arrives : (o : Option Place) (k c : ℕ) → restated c (destination o k) ≡ destination o c
arrives None k c = refl
arrives (Some (Standing a)) k c = refl
arrives (Some (Going a b)) k c = refl

pub tells : (k c : ℕ) (a : Answer) → restated c (told k a) ≡ told c a
tells k c There = refl
tells k c NotYet = refl

-- after an answer all are where they are below
pub settles : (f n : ℕ) (ps : List Place) (c b : ℕ) (a : Answer) → c < length (part f n ps) → part f n (settled ps (f + c) b a) ≡ settled (part f n ps) c b a
settles f n ps c b There h = part_set f n ps c (Standing b) h
settles f n ps c b NotYet h = refl

-- What is refused below is refused above, and what is done below is done above. The drives before and after are d and e below,
-- s and t above.
pub passes_on :
    {D E : Type 0} (x : Result ℕ DriveFault) (c : ℕ) (Below : ℕ → Result Unit DriveFault → D → Type 0) (Above : ℕ → Result Unit DriveFault → E → Type 0) (d e : D) (s t : E) (r : Result Unit DriveFault)
    → (e ≡ d → t ≡ s)
    → ((a : ℕ) → Below a r e → Above a (restated c r) t)
    → RefusedOr x Below d r e
    → RefusedOr (restated c x) Above s (restated c r) t
passes_on (Err f) c Below Above d e s t r kept done (refused, same) = (ap (restated c) refused, kept same)
passes_on (Ok a) c Below Above d e s t r kept done h = done a h

module _ {D : Type 0} (meaning : D → List Place) (s : Section D) (c : ℕ) (shown : c < length (part_places meaning s)) where
  -- the section of a drive, and the carrier's number in the drive
  abbrev over : D → Section D
  over d = section d s.first s.most

  abbrev k : ℕ
  k = s.first + c

  place_below : slice_get (meaning s.inner) k ≡ slice_get (part_places meaning s) c
  place_below = sym (part_read s.first s.most (meaning s.inner) c shown)

  -- a send below is one of the section
  pub sends : (sent : D → ℕ → ℕ → D) (t : ℕ) (r : Result Unit DriveFault) (e : D) → Sent meaning sent s.inner k t r e → Sent (part_places meaning) (part_sent sent) s c t (restated c r) (over e)
  sends sent t r e below =
      rw (← place_below, ← departs (slice_get (meaning s.inner) k) k c t) (passes_on _ c (Goes meaning sent s.inner k t) (Goes (part_places meaning) (part_sent sent) s c t) s.inner e s (over e) r (ap over) (λ a (fine, is, at). (
        ap (restated c) fine,
        ap over is,
        ap (part s.first s.most) at ∙ part_set s.first s.most (meaning s.inner) c (Going a t) shown,
      )) below)

  -- and so is a report
  pub answers : (reports : D → ℕ → Answer → D → Type 0) (r : Result Unit DriveFault) (e : D) → Reported meaning reports s.inner k r e → Reported (part_places meaning) (part_reports reports) s c (restated c r) (over e)
  answers reports r e below =
      rw (← place_below, ← arrives (slice_get (meaning s.inner) k) k c) (passes_on _ c (Tells meaning reports s.inner k) (Tells (part_places meaning) (part_reports reports) s c) s.inner e s (over e) r (ap over) (λ b (a, is, rule, at). (
        a,
        ap (restated c) is ∙ tells k c a,
        (rule, refl, refl),
        ap (part s.first s.most) at ∙ settles s.first s.most (meaning s.inner) c b a shown,
      )) below)
