-- The nodes of an `or`, one part after the other.
use Rattle.std.specs.Prelude.{ℕ, List, Option, Some, None}
use Rattle.da_lang.specs.declared.query.Node.{Node}
use Rattle.da_lang.specs.declared.query.Node.TheVariants as node
use Rattle.query_plan.specs.Plans.{Norm, added, any_on, or_on}

-- the node of what came so far, if anything did, and of one more
abbrev pub either_of : List Node → Option ℕ → ℕ → List Node × ℕ
either_of nodes None right = (nodes, right)
either_of nodes (Some left) right = added nodes (node.Union left right)

-- what came, or a node without rows
abbrev pub any_left : List Node → ℕ → Option ℕ → List Node × ℕ
any_left nodes parent None = added nodes (node.Anti parent parent)
any_left nodes parent (Some left) = (nodes, left)

-- the conditions that are still to come, after what came so far
abbrev pub any_from : Option ℕ → List Norm → Norm
any_from None fs at nodes = any_on fs at nodes
any_from (Some left) fs at nodes = or_on fs at (nodes, left)
