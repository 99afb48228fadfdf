use Rattle.std.proofs.Common.{rules}
use Rattle.fault.specs.declared.kinds.Flaw.TheVariants.{Carrier}
use Rattle.record.specs.Entries.{HasFlaw}
use Rattle.record.specs.Searches.{listed}
use Rattle.record.proofs.Ranges.{first_to}
use Rattle.record.proofs.listing.Listing.first_misnumbered.Goals as goal

pub returns : goal.returns
returns c =
    first_to _ _ _ _ (HasFlaw (listed c.args.self.now) Carrier) (search rules) (search rules) (search rules) (λ a r f' k. search rules)
    (λ x k. search rules) (λ x k. search rules) c.find.result c.find.ensures.runs
