-- The names that statements assign, add to and delete from, in the order of the text, and those that get a line.
use Rattle.std.specs.Prelude.{ℕ, List, [], ◌∷◌, ◌++◌, Option, Some, None, option_to_list, flat_map}
use Rattle.da_lang.specs.declared.tree.Branch.{Branch}
use Rattle.da_lang.specs.declared.tree.ClassTree.{ClassTree}
use Rattle.da_lang.specs.declared.tree.Member.{Member}
use Rattle.da_lang.specs.declared.tree.Member.TheVariants as member
use Rattle.da_lang.specs.declared.tree.Stmt.{Stmt}
use Rattle.da_lang.specs.declared.tree.Stmt.TheFolds.{fold-Stmt, fold-Branch, fold-TimeoutTree}
use Rattle.da_lang.specs.declared.tree.Stmt.TheOpen.{Stmt-F, Branch-F, TimeoutTree-F}
use Rattle.da_lang.specs.declared.tree.TimeoutTree.{TimeoutTree}
use Rattle.added_names.specs.declared.added.AddedVariable.{AddedVariable}
use Rattle.added_names.specs.Firsts.{firsts}

abbrev pub Changes : Type 0
Changes = List AddedVariable

abbrev pub all : List Changes → Changes
all parts = flat_map (λ changes. changes) parts

abbrev pub all_if : Option (List Changes) → Changes
all_if None = []
all_if (Some parts) = all parts

-- a change on this line
unfoldable pub change : List ℕ → ℕ → Changes
change name line = record { name = name; line = line } ∷ []

abbrev pub stmt_step : Stmt-F Changes Changes Changes → Changes
stmt_step (Stmt-F.Assign name x line) = change name line
stmt_step (Stmt-F.Add name x line) = change name line
stmt_step (Stmt-F.Del name x line) = change name line
stmt_step (Stmt-F.Send x to line) = []
stmt_step (Stmt-F.Output x line) = []
stmt_step (Stmt-F.Pass line) = []
stmt_step (Stmt-F.Label name line) = []
stmt_step (Stmt-F.Call name xs line) = []
stmt_step (Stmt-F.If branches other line) = all branches ++ all_if other
stmt_step (Stmt-F.While x body line) = all body
stmt_step (Stmt-F.For name x body line) = all body
stmt_step (Stmt-F.AwaitOne x line) = []
stmt_step (Stmt-F.Await branches timeout line) = all branches ++ all (option_to_list timeout)

abbrev pub branch_step : Branch-F Changes Changes Changes → Changes
branch_step b = all b.body

abbrev pub timeout_step : TimeoutTree-F Changes Changes Changes → Changes
timeout_step t = all t.body

unfoldable pub stmt_changes : Stmt → Changes
stmt_changes = fold-Stmt Changes Changes Changes stmt_step branch_step timeout_step

unfoldable pub branch_changes : Branch → Changes
branch_changes = fold-Branch Changes Changes Changes stmt_step branch_step timeout_step

unfoldable pub timeout_changes : TimeoutTree → Changes
timeout_changes = fold-TimeoutTree Changes Changes Changes stmt_step branch_step timeout_step

-- the block of `else` and of `timeout`, where there is one
unfoldable pub else_changes : Option (List Stmt) → Changes
else_changes None = []
else_changes (Some body) = flat_map stmt_changes body

unfoldable pub late_changes : Option TimeoutTree → Changes
late_changes None = []
late_changes (Some t) = timeout_changes t

unfoldable pub member_changes : Member → Changes
member_changes (member.Var name ty line) = []
member_changes (member.Setup params body line) = flat_map stmt_changes body
member_changes (member.Run body line) = flat_map stmt_changes body
member_changes (member.Method name params body line) = flat_map stmt_changes body
member_changes (member.Receive message from labels body line) = flat_map stmt_changes body

-- the name that a member declares as a variable
unfoldable pub declares : Member → List (List ℕ)
declares (member.Var name ty line) = name ∷ []
declares _ = []

-- those of a class that have no line, each where it appears first
unfoldable pub added_variables : ClassTree → Changes
added_variables c = firsts (λ v. v.name) (flat_map declares c.members) (flat_map member_changes c.members)
