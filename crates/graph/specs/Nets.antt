-- What a net holds: visits, and crossings between them.
use Rattle.std.specs.Prelude.{List}
use Rattle.fixed.specs.Items.{items}
use Rattle.walk.specs.declared.visit.Visit.{Visit}
use Rattle.walk.specs.declared.crossing.Crossing.{Crossing}
use Rattle.graph.specs.declared.net.Net.{Net}

abbrev pub net_visits : Net → List Visit
net_visits n = items n.visits

abbrev pub net_crossings : Net → List Crossing
net_crossings n = items n.crossings
