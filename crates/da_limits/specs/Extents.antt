-- How large the inlined text of statements is, in numbers up to 65,535, where the extent of the copy of each method is
-- given.
use Rattle.std.specs.Prelude.{ℕ, zero, suc, ◌+◌, max, List, [], ◌∷◌, map, length, Option, Some, None, unwrap_or}
use Rattle.std.specs.List.{fold}
use Rattle.da_lang.specs.declared.tree.Branch.{Branch}
use Rattle.da_lang.specs.declared.tree.ClassTree.{ClassTree}
use Rattle.da_lang.specs.declared.tree.Stmt.{Stmt}
use Rattle.da_lang.specs.declared.tree.Stmt.TheFolds.{fold-Stmt, fold-Branch, fold-TimeoutTree}
use Rattle.da_lang.specs.declared.tree.Stmt.TheOpen.{Stmt-F, Branch-F, TimeoutTree-F}
use Rattle.da_lang.specs.declared.tree.TimeoutTree.{TimeoutTree}
use Rattle.da_lang.specs.ClassParts.{Body, bodies_where, is_handler, method_of, run_of, setup_of, stmts_if, variables}
use Rattle.da_lang.specs.ExprNames.{found_names}
use Rattle.da_lang.specs.Resolution.{handler_binds}
use Rattle.da_limits.specs.Capped.{capped}
use Rattle.da_limits.specs.declared.extent.Extent.{Extent}

unfoldable pub nothing : Extent
nothing = record { items = 0; blocks = 0; slots = 0 }

-- one text after another
unfoldable pub beside : Extent → Extent → Extent
beside x y = record { items = capped (x.items + y.items); blocks = max x.blocks y.blocks; slots = capped (x.slots + y.slots) }

unfoldable pub together : List Extent → Extent
together xs = fold beside nothing xs

-- a statement that holds this; a block of it; the same with so many slots besides
unfoldable pub one : Extent → Extent
one x = record x { items = capped (x.items + 1) }

unfoldable pub deeper : Extent → Extent
deeper x = record x { blocks = capped (x.blocks + 1) }

unfoldable pub wider : ℕ → Extent → Extent
wider count x = record x { slots = capped (x.slots + count) }

-- the statements of a block; no statements are no block
unfoldable pub as_block : List Extent → Extent
as_block [] = nothing
as_block (x ∷ xs) = deeper (together (x ∷ xs))

unfoldable pub else_extent : Option (List Extent) → Extent
else_extent None = nothing
else_extent (Some xs) = as_block xs

-- the extent of the copy of the method of a name
abbrev pub Called : Type 0
Called = List ℕ → Extent

abbrev pub stmt_extent : Called → Stmt-F Extent Extent Extent → Extent
stmt_extent called (Stmt-F.Assign name x line) = one nothing
stmt_extent called (Stmt-F.Add name x line) = one nothing
stmt_extent called (Stmt-F.Del name x line) = one nothing
stmt_extent called (Stmt-F.Send x to line) = one nothing
stmt_extent called (Stmt-F.Output x line) = one nothing
stmt_extent called (Stmt-F.Pass line) = one nothing
stmt_extent called (Stmt-F.Label name line) = one nothing
stmt_extent called (Stmt-F.Call name xs line) = one (called name)
stmt_extent called (Stmt-F.If branches other line) = one (beside (together branches) (else_extent other))
stmt_extent called (Stmt-F.While x body line) = one (as_block body)
stmt_extent called (Stmt-F.For name x body line) = one (wider 1 (as_block body))
stmt_extent called (Stmt-F.AwaitOne x line) = one (wider (length (found_names x)) nothing)
stmt_extent called (Stmt-F.Await branches timeout line) = one (beside (together branches) (unwrap_or timeout nothing))

abbrev pub branch_extent : Branch-F Extent Extent Extent → Extent
branch_extent b = wider (length (found_names b.cond)) (as_block b.body)

abbrev pub timeout_extent : TimeoutTree-F Extent Extent Extent → Extent
timeout_extent t = as_block t.body

unfoldable pub extent : Called → Stmt → Extent
extent called = fold-Stmt Extent Extent Extent (stmt_extent called) branch_extent timeout_extent

unfoldable pub extent_of_branch : Called → Branch → Extent
extent_of_branch called = fold-Branch Extent Extent Extent (stmt_extent called) branch_extent timeout_extent

unfoldable pub extent_of_timeout : Called → TimeoutTree → Extent
extent_of_timeout called = fold-TimeoutTree Extent Extent Extent (stmt_extent called) branch_extent timeout_extent

-- a body with slots for its parameters
abbrev pub body_extent : Called → Body → Extent
body_extent called b = wider (length b.params) (as_block (map (extent called) b.stmts))

abbrev pub body_extent_if : Called → Option Body → Extent
body_extent_if called None = nothing
body_extent_if called (Some b) = body_extent called b

-- the copy of a method, where at most so many calls are within calls
unfoldable pub method_extent : ℕ → ClassTree → Called
method_extent zero c name = nothing
method_extent (suc most) c name = body_extent_if (method_extent most c) (method_of c name)

-- a handler, with slots for the variables of its patterns
abbrev pub handler_extent : Called → Body → Extent
handler_extent called b = wider (length (handler_binds b.place)) (as_block (map (extent called) b.stmts))

abbrev pub run_extent : Called → ClassTree → Extent
run_extent called c = as_block (map (extent called) (stmts_if (run_of c)))

-- a class, with slots for its variables
abbrev pub class_extent_by : Called → ClassTree → Extent
class_extent_by called c =
    wider (length (variables c)) (fold beside (beside (body_extent_if called (setup_of c)) (run_extent called c)) (map (handler_extent called) (bodies_where is_handler c)))

abbrev pub class_extent : ClassTree → Extent
class_extent c = class_extent_by (method_extent (length c.members) c) c
