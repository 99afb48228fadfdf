-- What one round of a sum gives.
use Rattle.std.specs.Prelude.{ℕ, cond, List, map, ◌==◌, slice_index_or}
use Rattle.walk.specs.declared.visit.Visit.{Visit}
use Rattle.walk.specs.Edges.{visit}
use Rattle.walk.specs.Values.{Operations}
use Rattle.walk.specs.Sums.{total}
use Rattle.graph.specs.declared.links.Link.{Link}

-- what one link brings to visit v
abbrev pub brings : {K : Type 0} → Operations K → List Visit → List K → ℕ → Link → K
brings ops vs values v l = cond (l.to == v) (ops.step (slice_index_or values l.from ops.zero) (visit vs v)) ops.zero

-- what starts at v, joined with what every link brings there
unfoldable pub round_at : {K : Type 0} → Operations K → List Visit → List K → List K → List Link → ℕ → K
round_at ops vs start values ls v = ops.join (slice_index_or start v ops.zero) (total ops (map (brings ops vs values v) ls))
