-- The statements of a body one by one, in the order of the text: each with its line, what it does, and its expressions.
use Rattle.std.specs.Prelude.{ℕ, List, [], ◌∷◌, ◌++◌, Option, Some, None, option_to_list, flat_map}
use Rattle.da_lang.specs.declared.tree.Expr.{Expr}
use Rattle.da_lang.specs.declared.tree.Branch.{Branch}
use Rattle.da_lang.specs.declared.tree.Stmt.{Stmt}
use Rattle.da_lang.specs.declared.tree.Stmt.TheFolds.{fold-Stmt, fold-Branch, fold-TimeoutTree}
use Rattle.da_lang.specs.declared.tree.Stmt.TheOpen.{Stmt-F, Branch-F, TimeoutTree-F}
use Rattle.da_lang.specs.declared.tree.TimeoutTree.{TimeoutTree}

-- What a statement or header does, as far as a rule names it.
pub data Doing : Type 0 where
  Sends : Doing
  Outputs : Doing
  Labels : List ℕ → Doing
  Calls : List ℕ → Doing
  Loops : Doing
  Awaits : Doing
  TimesOut : Doing
  Other : Doing

pub record Deed : Type 0 where
  pub line : ℕ
  pub does : Doing
  pub says : List Expr

abbrev pub deed : ℕ → Doing → List Expr → Deed
deed line does says = record { line = line; does = does; says = says }

abbrev pub all : List (List Deed) → List Deed
all parts = flat_map (λ deeds. deeds) parts

-- a block that may be missing
abbrev pub all_if : Option (List (List Deed)) → List Deed
all_if None = []
all_if (Some parts) = all parts

abbrev pub stmt_deeds : Stmt-F (List Deed) (List Deed) (List Deed) → List Deed
stmt_deeds (Stmt-F.Assign name x line) = deed line Other (x ∷ []) ∷ []
stmt_deeds (Stmt-F.Add name x line) = deed line Other (x ∷ []) ∷ []
stmt_deeds (Stmt-F.Del name x line) = deed line Other (x ∷ []) ∷ []
stmt_deeds (Stmt-F.Send x to line) = deed line Sends (x ∷ to ∷ []) ∷ []
stmt_deeds (Stmt-F.Output x line) = deed line Outputs (x ∷ []) ∷ []
stmt_deeds (Stmt-F.Pass line) = deed line Other [] ∷ []
stmt_deeds (Stmt-F.Label name line) = deed line (Labels name) [] ∷ []
stmt_deeds (Stmt-F.Call name xs line) = deed line (Calls name) xs ∷ []
stmt_deeds (Stmt-F.If branches other line) = deed line Other [] ∷ all branches ++ all_if other
stmt_deeds (Stmt-F.While x body line) = deed line Loops (x ∷ []) ∷ all body
stmt_deeds (Stmt-F.For name x body line) = deed line Loops (x ∷ []) ∷ all body
stmt_deeds (Stmt-F.AwaitOne x line) = deed line Awaits (x ∷ []) ∷ []
stmt_deeds (Stmt-F.Await branches timeout line) = deed line Awaits [] ∷ all branches ++ all (option_to_list timeout)

-- the header of a branch, of a timeout
abbrev pub branch_deeds : Branch-F (List Deed) (List Deed) (List Deed) → List Deed
branch_deeds b = deed b.line Other (b.cond ∷ []) ∷ all b.body

abbrev pub timeout_deeds : TimeoutTree-F (List Deed) (List Deed) (List Deed) → List Deed
timeout_deeds t = deed t.line TimesOut [] ∷ all t.body

unfoldable pub deeds_of : Stmt → List Deed
deeds_of = fold-Stmt (List Deed) (List Deed) (List Deed) stmt_deeds branch_deeds timeout_deeds

unfoldable pub deeds_of_branch : Branch → List Deed
deeds_of_branch = fold-Branch (List Deed) (List Deed) (List Deed) stmt_deeds branch_deeds timeout_deeds

unfoldable pub deeds_of_timeout : TimeoutTree → List Deed
deeds_of_timeout = fold-TimeoutTree (List Deed) (List Deed) (List Deed) stmt_deeds branch_deeds timeout_deeds

abbrev pub deeds : List Stmt → List Deed
deeds body = flat_map deeds_of body
