-- The rows of a place of which a condition holds.
use Rattle.std.specs.Prelude.{◌≡◌, ◌<◌, ℕ, List, ◌++◌, length, map}
use Rattle.std.specs.List.{filter}
use Rattle.da_lang.specs.declared.query.Cond.{Cond}
use Rattle.da_lang.specs.declared.query.Node.{Node}
use Rattle.da_lang.specs.Matching.{Row}
use Rattle.da_lang.specs.Queries.{holds}
use Rattle.da_lang.specs.World.{Data, or_nothing, at_number}
use Rattle.query_plan.specs.Nodes.{node_rows}
use Rattle.query_plan.specs.Plans.{Place, norm}
use Rattle.quant_norm.specs.GoodPlaces.{Good}

-- the values of the variables that stand in these parts of a row
abbrev pub seen : List ℕ → Row → Row
seen vars row = map (λ part. or_nothing (at_number row part)) vars

-- The node that a condition gets at a place has the rows of the place of which the condition holds. It is one of the nodes
-- that are there, or stands after them.
pub record Filters (nodes : List Node) (at : Place) (b : Cond) (d : Data) : Type 0 where
  pub more : List Node
  pub behind : (norm b at nodes).0 ≡ nodes ++ more
  pub there : (norm b at nodes).1 < length (norm b at nodes).0
  pub rows : node_rows d (norm b at nodes).0 (norm b at nodes).1 ≡ filter (λ row. holds d b (seen at.vars row)) (node_rows d nodes at.node)

-- so it is of each condition, at each place among these nodes, in each world
abbrev pub FiltersEach : List Node → Type 0
FiltersEach nodes = (at : Place) → Good nodes at → (b : Cond) (d : Data) → Filters nodes at b d
