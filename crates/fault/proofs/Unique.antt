-- What is named first is one.
use Rattle.std.proofs.Common.{◌≡◌, ℕ, zero, suc, ◌⊎◌, sym, refl, ap, ◌∙◌, inl, inr, ⊎_elim}
use Rattle.std.proofs.lemmas.Bool.{cases_order}
use Rattle.fault.specs.declared.kinds.Field.{Field}
use Rattle.fault.specs.declared.kinds.Field.TheVariants.{Width, Height, Carriers, Entries}
use Rattle.fault.specs.declared.kinds.Meeting.{Meeting}
use Rattle.fault.specs.Reports.{place_of}
use Rattle.fault.specs.Firsts.{First, By, Sooner}
use Rattle.fault.specs.Firsts.Sooner.{by_step, by_first, by_second}

-- of any two that differ, one comes before the other
abbrev pub Trichotomy : {X : Type 0} → (X → X → Type 0) → Type 0
Trichotomy {X} Before = (x y : X) → (x ≡ y) ⊎ (Before x y ⊎ Before y x)

pub first_is_one : {X : Type 0} (Before : X → X → Type 0) → Trichotomy Before → (P : X → Type 0) (x y : X) → First Before P x → First Before P y → x ≡ y
first_is_one Before total P x y p q = ⊎_elim (λ e. e) (⊎_elim (λ l. absurd (q.1 x l p.0)) (λ l. absurd (p.1 y l q.0))) (total x y)

field_at : ℕ → Field
field_at zero = Width
field_at (suc zero) = Height
field_at (suc (suc zero)) = Carriers
field_at (suc (suc (suc n))) = Entries

found : (f : Field) → field_at (place_of f) ≡ f
unfolding field_at
found Width = refl
found Height = refl
found Carriers = refl
found Entries = refl

pub fields_total : Trichotomy (By place_of)
fields_total f g = ⊎_elim (λ e. inl (sym (found f) ∙ ap field_at e ∙ found g)) inr (cases_order (place_of f) (place_of g))

module _ (m n : Meeting) where
  abbrev Ranked : Type 0
  Ranked = (m ≡ n) ⊎ (Sooner m n ⊎ Sooner n m)

  by_seconds : m.step ≡ n.step → m.first ≡ n.first → Ranked
  by_seconds s f =
      ⊎_elim (λ e. inl (λ i. record { step = s i; first = f i; second = e i })) (⊎_elim (λ l. inr (inl (by_second s f l))) (λ l. inr (inr (by_second (sym s) (sym f) l))))
      (cases_order m.second n.second)

  by_firsts : m.step ≡ n.step → Ranked
  by_firsts s =
      ⊎_elim (by_seconds s) (⊎_elim (λ l. inr (inl (by_first s l))) (λ l. inr (inr (by_first (sym s) l)))) (cases_order m.first n.first)

pub meetings_total : Trichotomy Sooner
meetings_total m n = ⊎_elim (by_firsts m n) (⊎_elim (λ l. inr (inl (by_step l))) (λ l. inr (inr (by_step l)))) (cases_order m.step n.step)
