-- Names in statements, one layer at a time.
use Rattle.std.specs.Prelude.{ℕ, List, map, Option, Some, None}
use Rattle.std.specs.Option.{option_map}
use Rattle.std.proofs.Common.{◌≡◌, ◌∙◌, ap, sym}
use Rattle.da_lang.specs.declared.tree.Branch.{Branch, roll-Branch}
use Rattle.da_lang.specs.declared.tree.Expr.{Expr}
use Rattle.da_lang.specs.declared.tree.Stmt.{Stmt, roll-Stmt}
use Rattle.da_lang.specs.declared.tree.Stmt.TheVariants as stmt
use Rattle.da_lang.specs.declared.tree.Stmt.TheOpen.{Stmt-F}
use Rattle.da_lang.specs.declared.tree.Stmt.TheFolds.{map-Stmt, fold-roll-Stmt, fold-roll-Branch, fold-roll-TimeoutTree}
use Rattle.da_lang.specs.declared.tree.TimeoutTree.{TimeoutTree, roll-TimeoutTree}
use Rattle.da_lang.specs.ExprNames.{Role}
use Rattle.da_lang.specs.Scopes.{Scope}
use Rattle.da_lang.specs.StmtNames.{guarded, block, Line, Refusing, line_of, branch_of, timeout_of, stmt_names, branch_names, timeout_names}

line_of_layer : (x : Stmt-F Stmt Branch TimeoutTree) → line_of (roll-Stmt x) ≡ stmt_names (map-Stmt Stmt Branch TimeoutTree Line Refusing Refusing line_of branch_of timeout_of x)
unfolding line_of branch_of timeout_of
line_of_layer x = fold-roll-Stmt Line Refusing Refusing stmt_names branch_names timeout_names x

pub line_of-Assign : (name : List ℕ) (x : Expr) (line : ℕ) → line_of (stmt.Assign name x line) ≡ stmt_names (Stmt-F.Assign name x line)
line_of-Assign name x line = ap (line_of) (sym (stmt.rolls-Assign name x line)) ∙ line_of_layer (Stmt-F.Assign name x line)

pub line_of-Add : (name : List ℕ) (x : Expr) (line : ℕ) → line_of (stmt.Add name x line) ≡ stmt_names (Stmt-F.Add name x line)
line_of-Add name x line = ap (line_of) (sym (stmt.rolls-Add name x line)) ∙ line_of_layer (Stmt-F.Add name x line)

pub line_of-Del : (name : List ℕ) (x : Expr) (line : ℕ) → line_of (stmt.Del name x line) ≡ stmt_names (Stmt-F.Del name x line)
line_of-Del name x line = ap (line_of) (sym (stmt.rolls-Del name x line)) ∙ line_of_layer (Stmt-F.Del name x line)

pub line_of-Send : (x : Expr) (to : Expr) (line : ℕ) → line_of (stmt.Send x to line) ≡ stmt_names (Stmt-F.Send x to line)
line_of-Send x to line = ap (line_of) (sym (stmt.rolls-Send x to line)) ∙ line_of_layer (Stmt-F.Send x to line)

pub line_of-Output : (x : Expr) (line : ℕ) → line_of (stmt.Output x line) ≡ stmt_names (Stmt-F.Output x line)
line_of-Output x line = ap (line_of) (sym (stmt.rolls-Output x line)) ∙ line_of_layer (Stmt-F.Output x line)

pub line_of-Pass : (line : ℕ) → line_of (stmt.Pass line) ≡ stmt_names (Stmt-F.Pass line)
line_of-Pass line = ap (line_of) (sym (stmt.rolls-Pass line)) ∙ line_of_layer (Stmt-F.Pass line)

pub line_of-Label : (name : List ℕ) (line : ℕ) → line_of (stmt.Label name line) ≡ stmt_names (Stmt-F.Label name line)
line_of-Label name line = ap (line_of) (sym (stmt.rolls-Label name line)) ∙ line_of_layer (Stmt-F.Label name line)

pub line_of-Call : (name : List ℕ) (xs : List Expr) (line : ℕ) → line_of (stmt.Call name xs line) ≡ stmt_names (Stmt-F.Call name xs line)
line_of-Call name xs line = ap (line_of) (sym (stmt.rolls-Call name xs line)) ∙ line_of_layer (Stmt-F.Call name xs line)

pub line_of-If : (branches : List Branch) (other : Option (List Stmt)) (line : ℕ) → line_of (stmt.If branches other line) ≡ stmt_names (Stmt-F.If (map branch_of branches) (option_map (map line_of) other) line)
line_of-If branches None line = ap (line_of) (sym (stmt.rolls-If branches None line)) ∙ line_of_layer (Stmt-F.If branches None line)
line_of-If branches (Some o) line = ap (line_of) (sym (stmt.rolls-If branches (Some o) line)) ∙ line_of_layer (Stmt-F.If branches (Some o) line)

pub line_of-While : (x : Expr) (body : List Stmt) (line : ℕ) → line_of (stmt.While x body line) ≡ stmt_names (Stmt-F.While x (map line_of body) line)
line_of-While x body line = ap (line_of) (sym (stmt.rolls-While x body line)) ∙ line_of_layer (Stmt-F.While x body line)

pub line_of-For : (name : List ℕ) (x : Expr) (body : List Stmt) (line : ℕ) → line_of (stmt.For name x body line) ≡ stmt_names (Stmt-F.For name x (map line_of body) line)
line_of-For name x body line = ap (line_of) (sym (stmt.rolls-For name x body line)) ∙ line_of_layer (Stmt-F.For name x body line)

pub line_of-AwaitOne : (x : Expr) (line : ℕ) → line_of (stmt.AwaitOne x line) ≡ stmt_names (Stmt-F.AwaitOne x line)
line_of-AwaitOne x line = ap (line_of) (sym (stmt.rolls-AwaitOne x line)) ∙ line_of_layer (Stmt-F.AwaitOne x line)

pub line_of-Await : (alts : List Branch) (timeout : Option TimeoutTree) (line : ℕ) → line_of (stmt.Await alts timeout line) ≡ stmt_names (Stmt-F.Await (map branch_of alts) (option_map timeout_of timeout) line)
line_of-Await alts None line = ap (line_of) (sym (stmt.rolls-Await alts None line)) ∙ line_of_layer (Stmt-F.Await alts None line)
line_of-Await alts (Some o) line = ap (line_of) (sym (stmt.rolls-Await alts (Some o) line)) ∙ line_of_layer (Stmt-F.Await alts (Some o) line)

pub branch_of-of : (cond_ : Expr) (body_ : List Stmt) (line_ : ℕ) → branch_of (roll-Branch (record { cond = cond_; body = body_; line = line_ })) ≡ branch_names (record { cond = cond_; body = (map line_of body_); line = line_ })
unfolding line_of branch_of timeout_of
branch_of-of cond_ body_ line_ = fold-roll-Branch Line Refusing Refusing stmt_names branch_names timeout_names (record { cond = cond_; body = body_; line = line_ })

pub timeout_of-of : (body_ : List Stmt) (line_ : ℕ) → timeout_of (roll-TimeoutTree (record { body = body_; line = line_ })) ≡ timeout_names (record { body = (map line_of body_); line = line_ })
unfolding line_of branch_of timeout_of
timeout_of-of body_ line_ = fold-roll-TimeoutTree Line Refusing Refusing stmt_names branch_names timeout_names (record { body = body_; line = line_ })

-- the same where the names in scope are given
pub branch_at : (x : Expr) (body : List Stmt) (line : ℕ) (scope : Scope Role) → branch_of (roll-Branch (record { cond = x; body = body; line = line })) scope ≡ guarded line x (map line_of body) scope
branch_at x body line scope = ap (λ (f : Refusing). f scope) (branch_of-of x body line)

pub timeout_at : (body : List Stmt) (line : ℕ) (scope : Scope Role) → timeout_of (roll-TimeoutTree (record { body = body; line = line })) scope ≡ block (map line_of body) scope
timeout_at body line scope = ap (λ (f : Refusing). f scope) (timeout_of-of body line)

pub ruleset naming_stmts = (branch_at, timeout_at, line_of-Assign, line_of-Add, line_of-Del, line_of-Send, line_of-Output, line_of-Pass, line_of-Label, line_of-Call, line_of-If, line_of-While, line_of-For, line_of-AwaitOne, line_of-Await, branch_of-of, timeout_of-of)
