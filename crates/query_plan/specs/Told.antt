-- What the rows of nodes tell of the numbered queries of a class, and of the alternatives of its `await`s.
use Rattle.std.specs.Prelude.{◌≡◌, ◌<◌, ℕ, Bool, true, false, not, if◌then◌else◌, List, [], ◌∷◌, map, length, Option, None}
use Rattle.std.specs.List.{AllZip}
use Rattle.da_values.specs.declared.val.Val.{Val}
use Rattle.da_values.specs.declared.val.Val.TheVariants as val
use Rattle.da_lang.specs.declared.program.Class.{Class}
use Rattle.da_lang.specs.declared.query.Cond.{Cond}
use Rattle.da_lang.specs.declared.query.Node.{Node}
use Rattle.da_lang.specs.declared.query.Query.{Query}
use Rattle.da_lang.specs.declared.query.Query.TheVariants as query
use Rattle.da_lang.specs.declared.query.QueryNode.{QueryNode}
use Rattle.da_lang.specs.declared.query.Shape.{Shape}
use Rattle.da_lang.specs.declared.query.Shape.TheVariants as shape
use Rattle.da_lang.specs.Matching.{Row}
use Rattle.da_lang.specs.Queries as queries
use Rattle.da_lang.specs.Queries.{agg_value, holds, term_set, first, value_of_query, shown_of_query, least_of_query}
use Rattle.da_lang.specs.World.{Data, nothing}
use Rattle.query_plan.specs.declared.plan.Plan.{Plan}
use Rattle.query_plan.specs.Nodes.{node_rows, IsPlan}
use Rattle.query_plan.specs.Questions.{class_met, awaited}

abbrev pub has_row : List Row → Bool
has_row [] = false
has_row (row ∷ rows) = true

-- the one part of the one row
abbrev pub only_part : List Row → Val
only_part ((x ∷ row) ∷ rows) = x
only_part _ = nothing

-- the value of a query whose node has these rows
abbrev pub told_value : Data → Shape → List Row → Val
told_value d shape.Exists rows = val.Bool (has_row rows)
told_value d shape.Each rows = val.Bool (not (has_row rows))
told_value d (shape.Comp t) rows = val.Set (term_set d t rows)
told_value d shape.Agg rows = only_part rows

-- the rows that `show` lists
abbrev pub told_shown : Data → Shape → List Row → List Row
told_shown d (shape.Comp t) rows = map (λ x. x ∷ []) (term_set d t rows)
told_shown d _ rows = rows

-- the row that a `some` binds
abbrev pub told_least : Shape → List Row → Option Row
told_least shape.Exists rows = first rows
told_least _ rows = None

-- the rows of a query: those that a `some` or a comprehension goes through, those that break an `each`, and the one of an
-- aggregate
abbrev pub rows_of_query : Data → Query → List Row
rows_of_query d (query.Quant each gens b) = if each then queries.other_rows d gens b [] else queries.rows d gens b []
rows_of_query d (query.Comp t gens b) = queries.rows d gens b []
rows_of_query d (query.Agg a) = (agg_value d a [] ∷ []) ∷ []

-- a node that is there has these rows, and tells all that a query gives
pub record TellsQuery (d : Data) (nodes : List Node) (q : Query) (told : QueryNode) : Type 0 where
  pub there : told.node < length nodes
  pub rows : node_rows d nodes told.node ≡ rows_of_query d q
  pub value : told_value d told.shape (node_rows d nodes told.node) ≡ value_of_query d q
  pub shown : told_shown d told.shape (node_rows d nodes told.node) ≡ shown_of_query d q
  pub least : told_least told.shape (node_rows d nodes told.node) ≡ least_of_query d q

-- a node that is there tells whether the condition of an alternative holds
pub record TellsFlag (d : Data) (nodes : List Node) (b : Cond) (flag : ℕ) : Type 0 where
  pub there : flag < length nodes
  pub row : has_row (node_rows d nodes flag) ≡ holds d b []

-- A plan of a class: in every world its nodes tell each numbered query, and each condition of an `await`.
pub record IsPlanOf (class : Class) (plan : Plan) : Type 0 where
  pub lower : IsPlan plan.nodes
  pub queries : (d : Data) → AllZip (TellsQuery d plan.nodes) class.queries plan.queries
  pub flags : (d : Data) → AllZip (TellsFlag d plan.nodes) (awaited (class_met class)) plan.flags
