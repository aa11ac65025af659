-- What holds of a statement of a tree where it holds of its blocks holds of every one.
use Rattle.std.specs.Prelude.{ℕ, List, Option, Some, None}
use Rattle.std.specs.List.{AllByRecursion}
use Rattle.std.proofs.Common.{subst, sym}
use Rattle.da_lang.specs.declared.tree.Branch.{Branch, roll-Branch}
use Rattle.da_lang.specs.declared.tree.Expr.{Expr}
use Rattle.da_lang.specs.declared.tree.Stmt.{Stmt, roll-Stmt}
use Rattle.da_lang.specs.declared.tree.Stmt.TheVariants as stmt
use Rattle.da_lang.specs.declared.tree.Stmt.TheOpen.{Stmt-F, Branch-F, TimeoutTree-F}
use Rattle.da_lang.specs.declared.tree.Stmt.TheFolds.{ind-Stmt, ind-Branch, ind-TimeoutTree, map-Stmt, map-Branch, map-TimeoutTree}
use Rattle.da_lang.specs.declared.tree.TimeoutTree.{TimeoutTree, roll-TimeoutTree}
use Rattle.da_lang.proofs.CondInduction.{Where}
use Rattle.da_lang.proofs.TermInduction.{bare, all_of-bare}

-- what is to be shown of each kind, and its cases
pub record StmtCases : Type 1 where
  pub Of_stmt : Stmt → Type 0
  pub Of_branch : Branch → Type 0
  pub Of_timeout : TimeoutTree → Type 0
  pub assign : (name : List ℕ) (x : Expr) (line : ℕ) → Of_stmt (stmt.Assign name x line)
  pub add : (name : List ℕ) (x : Expr) (line : ℕ) → Of_stmt (stmt.Add name x line)
  pub delete : (name : List ℕ) (x : Expr) (line : ℕ) → Of_stmt (stmt.Del name x line)
  pub send : (x : Expr) (to : Expr) (line : ℕ) → Of_stmt (stmt.Send x to line)
  pub output : (x : Expr) (line : ℕ) → Of_stmt (stmt.Output x line)
  pub pass : (line : ℕ) → Of_stmt (stmt.Pass line)
  pub label : (name : List ℕ) (line : ℕ) → Of_stmt (stmt.Label name line)
  pub call : (name : List ℕ) (xs : List Expr) (line : ℕ) → Of_stmt (stmt.Call name xs line)
  pub conditional : (branches : List Branch) (other : Option (List Stmt)) (line : ℕ) → AllByRecursion Of_branch branches → Where (AllByRecursion Of_stmt) other → Of_stmt (stmt.If branches other line)
  pub loop : (x : Expr) (body : List Stmt) (line : ℕ) → AllByRecursion Of_stmt body → Of_stmt (stmt.While x body line)
  pub each : (name : List ℕ) (x : Expr) (body : List Stmt) (line : ℕ) → AllByRecursion Of_stmt body → Of_stmt (stmt.For name x body line)
  pub await_one : (x : Expr) (line : ℕ) → Of_stmt (stmt.AwaitOne x line)
  pub await : (alts : List Branch) (over : Option TimeoutTree) (line : ℕ) → AllByRecursion Of_branch alts → Where Of_timeout over → Of_stmt (stmt.Await alts over line)
  pub branch : (cond_ : Expr) (body_ : List Stmt) (line_ : ℕ) → AllByRecursion Of_stmt body_ → Of_branch (roll-Branch (record { cond = cond_; body = body_; line = line_ }))
  pub timeout : (body_ : List Stmt) (line_ : ℕ) → AllByRecursion Of_stmt body_ → Of_timeout (roll-TimeoutTree (record { body = body_; line = line_ }))

module _ (c : StmtCases) where
  abbrev AtStmt : Type 0
  AtStmt = (x : Stmt) × c.Of_stmt x

  abbrev AtBranch : Type 0
  AtBranch = (x : Branch) × c.Of_branch x

  abbrev AtTimeoutTree : Type 0
  AtTimeoutTree = (x : TimeoutTree) × c.Of_timeout x

  stmt_case : (y : Stmt-F AtStmt AtBranch AtTimeoutTree) → c.Of_stmt (roll-Stmt (map-Stmt AtStmt AtBranch AtTimeoutTree Stmt Branch TimeoutTree (λ e. e.0) (λ e. e.0) (λ e. e.0) y))
  stmt_case (Stmt-F.Assign name x line) = subst c.Of_stmt (sym (stmt.rolls-Assign name x line)) (c.assign name x line)
  stmt_case (Stmt-F.Add name x line) = subst c.Of_stmt (sym (stmt.rolls-Add name x line)) (c.add name x line)
  stmt_case (Stmt-F.Del name x line) = subst c.Of_stmt (sym (stmt.rolls-Del name x line)) (c.delete name x line)
  stmt_case (Stmt-F.Send x to line) = subst c.Of_stmt (sym (stmt.rolls-Send x to line)) (c.send x to line)
  stmt_case (Stmt-F.Output x line) = subst c.Of_stmt (sym (stmt.rolls-Output x line)) (c.output x line)
  stmt_case (Stmt-F.Pass line) = subst c.Of_stmt (sym (stmt.rolls-Pass line)) (c.pass line)
  stmt_case (Stmt-F.Label name line) = subst c.Of_stmt (sym (stmt.rolls-Label name line)) (c.label name line)
  stmt_case (Stmt-F.Call name xs line) = subst c.Of_stmt (sym (stmt.rolls-Call name xs line)) (c.call name xs line)
  stmt_case (Stmt-F.If branches None line) = subst c.Of_stmt (sym (stmt.rolls-If (bare branches) None line)) (c.conditional (bare branches) None line (all_of-bare c.Of_branch branches) tt)
  stmt_case (Stmt-F.If branches (Some other) line) = subst c.Of_stmt (sym (stmt.rolls-If (bare branches) (Some (bare other)) line)) (c.conditional (bare branches) (Some (bare other)) line (all_of-bare c.Of_branch branches) (all_of-bare c.Of_stmt other))
  stmt_case (Stmt-F.While x body line) = subst c.Of_stmt (sym (stmt.rolls-While x (bare body) line)) (c.loop x (bare body) line (all_of-bare c.Of_stmt body))
  stmt_case (Stmt-F.For name x body line) = subst c.Of_stmt (sym (stmt.rolls-For name x (bare body) line)) (c.each name x (bare body) line (all_of-bare c.Of_stmt body))
  stmt_case (Stmt-F.AwaitOne x line) = subst c.Of_stmt (sym (stmt.rolls-AwaitOne x line)) (c.await_one x line)
  stmt_case (Stmt-F.Await alts None line) = subst c.Of_stmt (sym (stmt.rolls-Await (bare alts) None line)) (c.await (bare alts) None line (all_of-bare c.Of_branch alts) tt)
  stmt_case (Stmt-F.Await alts (Some over) line) = subst c.Of_stmt (sym (stmt.rolls-Await (bare alts) (Some over.0) line)) (c.await (bare alts) (Some over.0) line (all_of-bare c.Of_branch alts) over.1)

  branch_case_of : (cond_ : Expr) (body_ : List AtStmt) (line_ : ℕ) → c.Of_branch (roll-Branch (map-Branch AtStmt AtBranch AtTimeoutTree Stmt Branch TimeoutTree (λ e. e.0) (λ e. e.0) (λ e. e.0) (record { cond = cond_; body = body_; line = line_ })))
  branch_case_of cond_ body_ line_ = c.branch cond_ (bare body_) line_ (all_of-bare c.Of_stmt body_)

  branch_case : (y : Branch-F AtStmt AtBranch AtTimeoutTree) → c.Of_branch (roll-Branch (map-Branch AtStmt AtBranch AtTimeoutTree Stmt Branch TimeoutTree (λ e. e.0) (λ e. e.0) (λ e. e.0) y))
  branch_case y = branch_case_of y.cond y.body y.line

  timeouttree_case_of : (body_ : List AtStmt) (line_ : ℕ) → c.Of_timeout (roll-TimeoutTree (map-TimeoutTree AtStmt AtBranch AtTimeoutTree Stmt Branch TimeoutTree (λ e. e.0) (λ e. e.0) (λ e. e.0) (record { body = body_; line = line_ })))
  timeouttree_case_of body_ line_ = c.timeout (bare body_) line_ (all_of-bare c.Of_stmt body_)

  timeouttree_case : (y : TimeoutTree-F AtStmt AtBranch AtTimeoutTree) → c.Of_timeout (roll-TimeoutTree (map-TimeoutTree AtStmt AtBranch AtTimeoutTree Stmt Branch TimeoutTree (λ e. e.0) (λ e. e.0) (λ e. e.0) y))
  timeouttree_case y = timeouttree_case_of y.body y.line

  pub stmt_induction : (x : Stmt) → c.Of_stmt x
  stmt_induction = ind-Stmt c.Of_stmt c.Of_branch c.Of_timeout (λ x y is. subst (λ z. c.Of_stmt (roll-Stmt z)) is (stmt_case y)) (λ x y is. subst (λ z. c.Of_branch (roll-Branch z)) is (branch_case y)) (λ x y is. subst (λ z. c.Of_timeout (roll-TimeoutTree z)) is (timeouttree_case y))

  pub branch_induction : (x : Branch) → c.Of_branch x
  branch_induction = ind-Branch c.Of_stmt c.Of_branch c.Of_timeout (λ x y is. subst (λ z. c.Of_stmt (roll-Stmt z)) is (stmt_case y)) (λ x y is. subst (λ z. c.Of_branch (roll-Branch z)) is (branch_case y)) (λ x y is. subst (λ z. c.Of_timeout (roll-TimeoutTree z)) is (timeouttree_case y))

  pub timeout_induction : (x : TimeoutTree) → c.Of_timeout x
  timeout_induction = ind-TimeoutTree c.Of_stmt c.Of_branch c.Of_timeout (λ x y is. subst (λ z. c.Of_stmt (roll-Stmt z)) is (stmt_case y)) (λ x y is. subst (λ z. c.Of_branch (roll-Branch z)) is (branch_case y)) (λ x y is. subst (λ z. c.Of_timeout (roll-TimeoutTree z)) is (timeouttree_case y))
