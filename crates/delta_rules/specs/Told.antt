-- What the nodes of a plan tell of numbered queries, by the number of the query. There is nothing to tell where there is no
-- such query.
use Rattle.std.specs.Prelude.{ℕ, List, [], get_or, map, Option, Some, None}
use Rattle.da_values.specs.declared.val.Val.{Val}
use Rattle.da_values.specs.declared.val.Val.TheVariants as val
use Rattle.da_lang.specs.declared.query.Node.{Node}
use Rattle.da_lang.specs.declared.query.QueryNode.{QueryNode}
use Rattle.da_lang.specs.Matching.{Row}
use Rattle.da_lang.specs.World.{Data, at_number, nothing}
use Rattle.query_plan.specs.declared.plan.Plan.{Plan}
use Rattle.query_plan.specs.declared.stored.Stored.{Stored}
use Rattle.query_plan.specs.Nodes.{node_rows}
use Rattle.query_plan.specs.Seen.{seen_rows}
use Rattle.query_plan.specs.Told.{told_least, told_shown, told_value}
use Rattle.row_pool.specs.Cells.{Cells}
use Rattle.delta_rules.specs.Keeping.{set_rows}
use Rattle.delta_rules.specs.declared.answers.Answers.{Answers}

-- the rows of a stored node, as answers keep them
abbrev pub stored_rows : Answers → Cells → ℕ → List Row
stored_rows answers pool i = get_or (set_rows pool answers.nodes.items) i []

-- those of any node, as they are seen
abbrev pub kept_rows : Answers → Cells → Stored → ℕ → List Row
kept_rows answers pool stored i = seen_rows (stored_rows answers pool) stored.seen i

abbrev pub value_of_node : Data → List Node → Option QueryNode → Val
value_of_node d nodes None = nothing
value_of_node d nodes (Some q) = told_value d q.shape (node_rows d nodes q.node)

abbrev pub least_of_node : Data → List Node → Option QueryNode → Option Row
least_of_node d nodes None = None
least_of_node d nodes (Some q) = told_least q.shape (node_rows d nodes q.node)

abbrev pub shown_of_node : Data → List Node → Option QueryNode → List Row
shown_of_node d nodes None = []
shown_of_node d nodes (Some q) = told_shown d q.shape (node_rows d nodes q.node)

-- the value of query q of a plan, numbered from 1
abbrev pub asked : Data → Plan → ℕ → Val
asked d plan q = value_of_node d plan.nodes (at_number plan.queries q)

-- the row that it binds, if any
abbrev pub least_found : Data → Plan → ℕ → Option Row
least_found d plan q = least_of_node d plan.nodes (at_number plan.queries q)

-- the set that `show` lists of it
abbrev pub set_listed : Data → Plan → ℕ → List Val
set_listed d plan q = map val.Tuple (shown_of_node d plan.nodes (at_number plan.queries q))
