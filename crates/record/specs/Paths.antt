-- What paths say.
use Rattle.fixed.specs.Items.{items}
use Rattle.record.specs.declared.paths.Paths.{Paths}
use Rattle.record.specs.Layout.{Draft}
use Rattle.record.specs.Headers.{draft_of}

abbrev pub paths_draft : Paths → Draft
paths_draft r = draft_of r.header (items r.entries)
