-- Statements without the numbers of lines, one layer at a time.
use Rattle.std.specs.Prelude.{ℕ, List, map, Option, Some, None}
use Rattle.std.specs.Option.{option_map}
use Rattle.std.proofs.Common.{◌≡◌, ◌∙◌, ap, sym}
use Rattle.da_lang.specs.declared.tree.Branch.{Branch, roll-Branch}
use Rattle.da_lang.specs.declared.tree.Expr.{Expr}
use Rattle.da_lang.specs.declared.tree.Stmt.{Stmt, roll-Stmt}
use Rattle.da_lang.specs.declared.tree.Stmt.TheVariants as stmt
use Rattle.da_lang.specs.declared.tree.Stmt.TheOpen.{Stmt-F}
use Rattle.da_lang.specs.declared.tree.Stmt.TheFolds.{map-Stmt, fold-roll-Stmt, fold-roll-Branch, fold-roll-TimeoutTree}
use Rattle.da_lang.specs.declared.tree.TimeoutTree.{TimeoutTree, roll-TimeoutTree}
use Rattle.da_unparse.specs.Unlined.{unlined_stmt_step, unlined_branch_step, unlined_timeout_step, unlined_stmt, unlined_branch, unlined_timeout}

unlined_layer : (s : Stmt-F Stmt Branch TimeoutTree) → unlined_stmt (roll-Stmt s) ≡ unlined_stmt_step (map-Stmt Stmt Branch TimeoutTree Stmt Branch TimeoutTree unlined_stmt unlined_branch unlined_timeout s)
unfolding unlined_stmt unlined_branch unlined_timeout
unlined_layer s = fold-roll-Stmt Stmt Branch TimeoutTree unlined_stmt_step unlined_branch_step unlined_timeout_step s

pub unlined-Assign : (n : List ℕ) (x : Expr) (at : ℕ) → unlined_stmt (stmt.Assign n x at) ≡ stmt.Assign n x 0
unlined-Assign n x at = ap unlined_stmt (sym (stmt.rolls-Assign n x at)) ∙ unlined_layer (Stmt-F.Assign n x at)

pub unlined-Add : (n : List ℕ) (x : Expr) (at : ℕ) → unlined_stmt (stmt.Add n x at) ≡ stmt.Add n x 0
unlined-Add n x at = ap unlined_stmt (sym (stmt.rolls-Add n x at)) ∙ unlined_layer (Stmt-F.Add n x at)

pub unlined-Del : (n : List ℕ) (x : Expr) (at : ℕ) → unlined_stmt (stmt.Del n x at) ≡ stmt.Del n x 0
unlined-Del n x at = ap unlined_stmt (sym (stmt.rolls-Del n x at)) ∙ unlined_layer (Stmt-F.Del n x at)

pub unlined-Send : (x y : Expr) (at : ℕ) → unlined_stmt (stmt.Send x y at) ≡ stmt.Send x y 0
unlined-Send x y at = ap unlined_stmt (sym (stmt.rolls-Send x y at)) ∙ unlined_layer (Stmt-F.Send x y at)

pub unlined-Output : (x : Expr) (at : ℕ) → unlined_stmt (stmt.Output x at) ≡ stmt.Output x 0
unlined-Output x at = ap unlined_stmt (sym (stmt.rolls-Output x at)) ∙ unlined_layer (Stmt-F.Output x at)

pub unlined-Pass : (at : ℕ) → unlined_stmt (stmt.Pass at) ≡ stmt.Pass 0
unlined-Pass at = ap unlined_stmt (sym (stmt.rolls-Pass at)) ∙ unlined_layer (Stmt-F.Pass at)

pub unlined-Label : (n : List ℕ) (at : ℕ) → unlined_stmt (stmt.Label n at) ≡ stmt.Label n 0
unlined-Label n at = ap unlined_stmt (sym (stmt.rolls-Label n at)) ∙ unlined_layer (Stmt-F.Label n at)

pub unlined-Call : (n : List ℕ) (xs : List Expr) (at : ℕ) → unlined_stmt (stmt.Call n xs at) ≡ stmt.Call n xs 0
unlined-Call n xs at = ap unlined_stmt (sym (stmt.rolls-Call n xs at)) ∙ unlined_layer (Stmt-F.Call n xs at)

pub unlined-If : (bs : List Branch) (other : Option (List Stmt)) (at : ℕ) → unlined_stmt (stmt.If bs other at) ≡ stmt.If (map unlined_branch bs) (option_map (map unlined_stmt) other) 0
unlined-If bs None at = ap unlined_stmt (sym (stmt.rolls-If bs None at)) ∙ unlined_layer (Stmt-F.If bs None at)
unlined-If bs (Some o) at = ap unlined_stmt (sym (stmt.rolls-If bs (Some o) at)) ∙ unlined_layer (Stmt-F.If bs (Some o) at)

pub unlined-While : (x : Expr) (body : List Stmt) (at : ℕ) → unlined_stmt (stmt.While x body at) ≡ stmt.While x (map unlined_stmt body) 0
unlined-While x body at = ap unlined_stmt (sym (stmt.rolls-While x body at)) ∙ unlined_layer (Stmt-F.While x body at)

pub unlined-For : (n : List ℕ) (x : Expr) (body : List Stmt) (at : ℕ) → unlined_stmt (stmt.For n x body at) ≡ stmt.For n x (map unlined_stmt body) 0
unlined-For n x body at = ap unlined_stmt (sym (stmt.rolls-For n x body at)) ∙ unlined_layer (Stmt-F.For n x body at)

pub unlined-AwaitOne : (x : Expr) (at : ℕ) → unlined_stmt (stmt.AwaitOne x at) ≡ stmt.AwaitOne x 0
unlined-AwaitOne x at = ap unlined_stmt (sym (stmt.rolls-AwaitOne x at)) ∙ unlined_layer (Stmt-F.AwaitOne x at)

pub unlined-Await : (bs : List Branch) (over : Option TimeoutTree) (at : ℕ) → unlined_stmt (stmt.Await bs over at) ≡ stmt.Await (map unlined_branch bs) (option_map unlined_timeout over) 0
unlined-Await bs None at = ap unlined_stmt (sym (stmt.rolls-Await bs None at)) ∙ unlined_layer (Stmt-F.Await bs None at)
unlined-Await bs (Some o) at = ap unlined_stmt (sym (stmt.rolls-Await bs (Some o) at)) ∙ unlined_layer (Stmt-F.Await bs (Some o) at)

pub unlined_branch_at : (x : Expr) (body : List Stmt) (at : ℕ) → unlined_branch (roll-Branch (record { cond = x; body = body; line = at })) ≡ roll-Branch (record { cond = x; body = map unlined_stmt body; line = 0 })
unfolding unlined_stmt unlined_branch unlined_timeout
unlined_branch_at x body at = fold-roll-Branch Stmt Branch TimeoutTree unlined_stmt_step unlined_branch_step unlined_timeout_step (record { cond = x; body = body; line = at })

pub unlined_timeout_at : (body : List Stmt) (at : ℕ) → unlined_timeout (roll-TimeoutTree (record { body = body; line = at })) ≡ roll-TimeoutTree (record { body = map unlined_stmt body; line = 0 })
unfolding unlined_stmt unlined_branch unlined_timeout
unlined_timeout_at body at = fold-roll-TimeoutTree Stmt Branch TimeoutTree unlined_stmt_step unlined_branch_step unlined_timeout_step (record { body = body; line = at })
