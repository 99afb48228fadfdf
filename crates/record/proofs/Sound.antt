-- What paths have, being sound.
use Rattle.std.proofs.Common.{◌≡◌, ℕ, ◌<◌, ◌≤◌, length, inl, inr, ⊎_elim, arith}
use Rattle.std.proofs.lemmas.Bool.{cases_lt}
use Rattle.fault.specs.declared.kinds.Flaw.TheVariants.{Carrier}
use Rattle.record.specs.declared.paths.Paths.{Paths}
use Rattle.record.specs.Layout.{Draft}
use Rattle.record.specs.Entries.{entry, Sound}
use Rattle.record.specs.Paths.{paths_draft}

pub carrier_known : (d : Draft) → Sound d → (k : ℕ) → k < length d.entries → (entry d.entries k).carrier < d.carriers
carrier_known d sound k h = ⊎_elim (λ l. l) (λ l. absurd (sound Carrier k (inl (h, inr l)))) (cases_lt (entry d.entries k).carrier d.carriers)

module _ (r : Paths) where
  pub draft_length : length (paths_draft r).entries ≡ r.header.entries
  draft_length = r.counted

  pub draft_few : length (paths_draft r).entries ≤ 512
  draft_few = omega (arith, draft_length, r.header.listed)
