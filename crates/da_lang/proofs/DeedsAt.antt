-- The statements of a body one by one, one layer at a time.
use Rattle.std.specs.Prelude.{ℕ, List, map, Option, Some, None}
use Rattle.std.specs.Option.{option_map}
use Rattle.std.proofs.Common.{◌≡◌, ◌∙◌, ap, sym}
use Rattle.da_lang.specs.declared.tree.Branch.{Branch, roll-Branch}
use Rattle.da_lang.specs.declared.tree.Expr.{Expr}
use Rattle.da_lang.specs.declared.tree.Stmt.{Stmt, roll-Stmt}
use Rattle.da_lang.specs.declared.tree.Stmt.TheVariants as stmt
use Rattle.da_lang.specs.declared.tree.Stmt.TheOpen.{Stmt-F}
use Rattle.da_lang.specs.declared.tree.Stmt.TheFolds.{map-Stmt, fold-roll-Stmt, fold-roll-Branch, fold-roll-TimeoutTree}
use Rattle.da_lang.specs.declared.tree.TimeoutTree.{TimeoutTree, roll-TimeoutTree}
use Rattle.da_lang.specs.Deeds.{Deed, deeds_of, deeds_of_branch, deeds_of_timeout, stmt_deeds, branch_deeds, timeout_deeds}

deeds_of_layer : (x : Stmt-F Stmt Branch TimeoutTree) → deeds_of (roll-Stmt x) ≡ stmt_deeds (map-Stmt Stmt Branch TimeoutTree (List Deed) (List Deed) (List Deed) deeds_of deeds_of_branch deeds_of_timeout x)
unfolding deeds_of deeds_of_branch deeds_of_timeout
deeds_of_layer x = fold-roll-Stmt (List Deed) (List Deed) (List Deed) stmt_deeds branch_deeds timeout_deeds x

pub deeds_of-Assign : (name : List ℕ) (x : Expr) (line : ℕ) → deeds_of (stmt.Assign name x line) ≡ stmt_deeds (Stmt-F.Assign name x line)
deeds_of-Assign name x line = ap (deeds_of) (sym (stmt.rolls-Assign name x line)) ∙ deeds_of_layer (Stmt-F.Assign name x line)

pub deeds_of-Add : (name : List ℕ) (x : Expr) (line : ℕ) → deeds_of (stmt.Add name x line) ≡ stmt_deeds (Stmt-F.Add name x line)
deeds_of-Add name x line = ap (deeds_of) (sym (stmt.rolls-Add name x line)) ∙ deeds_of_layer (Stmt-F.Add name x line)

pub deeds_of-Del : (name : List ℕ) (x : Expr) (line : ℕ) → deeds_of (stmt.Del name x line) ≡ stmt_deeds (Stmt-F.Del name x line)
deeds_of-Del name x line = ap (deeds_of) (sym (stmt.rolls-Del name x line)) ∙ deeds_of_layer (Stmt-F.Del name x line)

pub deeds_of-Send : (x : Expr) (to : Expr) (line : ℕ) → deeds_of (stmt.Send x to line) ≡ stmt_deeds (Stmt-F.Send x to line)
deeds_of-Send x to line = ap (deeds_of) (sym (stmt.rolls-Send x to line)) ∙ deeds_of_layer (Stmt-F.Send x to line)

pub deeds_of-Output : (x : Expr) (line : ℕ) → deeds_of (stmt.Output x line) ≡ stmt_deeds (Stmt-F.Output x line)
deeds_of-Output x line = ap (deeds_of) (sym (stmt.rolls-Output x line)) ∙ deeds_of_layer (Stmt-F.Output x line)

pub deeds_of-Pass : (line : ℕ) → deeds_of (stmt.Pass line) ≡ stmt_deeds (Stmt-F.Pass line)
deeds_of-Pass line = ap (deeds_of) (sym (stmt.rolls-Pass line)) ∙ deeds_of_layer (Stmt-F.Pass line)

pub deeds_of-Label : (name : List ℕ) (line : ℕ) → deeds_of (stmt.Label name line) ≡ stmt_deeds (Stmt-F.Label name line)
deeds_of-Label name line = ap (deeds_of) (sym (stmt.rolls-Label name line)) ∙ deeds_of_layer (Stmt-F.Label name line)

pub deeds_of-Call : (name : List ℕ) (xs : List Expr) (line : ℕ) → deeds_of (stmt.Call name xs line) ≡ stmt_deeds (Stmt-F.Call name xs line)
deeds_of-Call name xs line = ap (deeds_of) (sym (stmt.rolls-Call name xs line)) ∙ deeds_of_layer (Stmt-F.Call name xs line)

pub deeds_of-If : (branches : List Branch) (other : Option (List Stmt)) (line : ℕ) → deeds_of (stmt.If branches other line) ≡ stmt_deeds (Stmt-F.If (map deeds_of_branch branches) (option_map (map deeds_of) other) line)
deeds_of-If branches None line = ap (deeds_of) (sym (stmt.rolls-If branches None line)) ∙ deeds_of_layer (Stmt-F.If branches None line)
deeds_of-If branches (Some o) line = ap (deeds_of) (sym (stmt.rolls-If branches (Some o) line)) ∙ deeds_of_layer (Stmt-F.If branches (Some o) line)

pub deeds_of-While : (x : Expr) (body : List Stmt) (line : ℕ) → deeds_of (stmt.While x body line) ≡ stmt_deeds (Stmt-F.While x (map deeds_of body) line)
deeds_of-While x body line = ap (deeds_of) (sym (stmt.rolls-While x body line)) ∙ deeds_of_layer (Stmt-F.While x body line)

pub deeds_of-For : (name : List ℕ) (x : Expr) (body : List Stmt) (line : ℕ) → deeds_of (stmt.For name x body line) ≡ stmt_deeds (Stmt-F.For name x (map deeds_of body) line)
deeds_of-For name x body line = ap (deeds_of) (sym (stmt.rolls-For name x body line)) ∙ deeds_of_layer (Stmt-F.For name x body line)

pub deeds_of-AwaitOne : (x : Expr) (line : ℕ) → deeds_of (stmt.AwaitOne x line) ≡ stmt_deeds (Stmt-F.AwaitOne x line)
deeds_of-AwaitOne x line = ap (deeds_of) (sym (stmt.rolls-AwaitOne x line)) ∙ deeds_of_layer (Stmt-F.AwaitOne x line)

pub deeds_of-Await : (alts : List Branch) (timeout : Option TimeoutTree) (line : ℕ) → deeds_of (stmt.Await alts timeout line) ≡ stmt_deeds (Stmt-F.Await (map deeds_of_branch alts) (option_map deeds_of_timeout timeout) line)
deeds_of-Await alts None line = ap (deeds_of) (sym (stmt.rolls-Await alts None line)) ∙ deeds_of_layer (Stmt-F.Await alts None line)
deeds_of-Await alts (Some o) line = ap (deeds_of) (sym (stmt.rolls-Await alts (Some o) line)) ∙ deeds_of_layer (Stmt-F.Await alts (Some o) line)

pub deeds_of_branch-of : (cond_ : Expr) (body_ : List Stmt) (line_ : ℕ) → deeds_of_branch (roll-Branch (record { cond = cond_; body = body_; line = line_ })) ≡ branch_deeds (record { cond = cond_; body = (map deeds_of body_); line = line_ })
unfolding deeds_of deeds_of_branch deeds_of_timeout
deeds_of_branch-of cond_ body_ line_ = fold-roll-Branch (List Deed) (List Deed) (List Deed) stmt_deeds branch_deeds timeout_deeds (record { cond = cond_; body = body_; line = line_ })

pub deeds_of_timeout-of : (body_ : List Stmt) (line_ : ℕ) → deeds_of_timeout (roll-TimeoutTree (record { body = body_; line = line_ })) ≡ timeout_deeds (record { body = (map deeds_of body_); line = line_ })
unfolding deeds_of deeds_of_branch deeds_of_timeout
deeds_of_timeout-of body_ line_ = fold-roll-TimeoutTree (List Deed) (List Deed) (List Deed) stmt_deeds branch_deeds timeout_deeds (record { body = body_; line = line_ })

pub ruleset doing = (deeds_of-Assign, deeds_of-Add, deeds_of-Del, deeds_of-Send, deeds_of-Output, deeds_of-Pass, deeds_of-Label, deeds_of-Call, deeds_of-If, deeds_of-While, deeds_of-For, deeds_of-AwaitOne, deeds_of-Await, deeds_of_branch-of, deeds_of_timeout-of)
