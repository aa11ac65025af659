-- The extents of statements, one layer at a time.
use Rattle.std.specs.Prelude.{ℕ, List, map, Option, Some, None}
use Rattle.std.specs.Option.{option_map}
use Rattle.std.proofs.Common.{◌≡◌, ◌∙◌, ap, sym}
use Rattle.da_lang.specs.declared.tree.Branch.{Branch, roll-Branch}
use Rattle.da_lang.specs.declared.tree.Expr.{Expr}
use Rattle.da_lang.specs.declared.tree.Stmt.{Stmt, roll-Stmt}
use Rattle.da_lang.specs.declared.tree.Stmt.TheVariants as stmt
use Rattle.da_lang.specs.declared.tree.Stmt.TheOpen.{Stmt-F}
use Rattle.da_lang.specs.declared.tree.Stmt.TheFolds.{map-Stmt, fold-roll-Stmt, fold-roll-Branch, fold-roll-TimeoutTree}
use Rattle.da_lang.specs.declared.tree.TimeoutTree.{TimeoutTree, roll-TimeoutTree}
use Rattle.da_limits.specs.declared.extent.Extent.{Extent}
use Rattle.da_limits.specs.Extents.{Called, extent, extent_of_branch, extent_of_timeout, stmt_extent, branch_extent, timeout_extent}

extent_layer : (called : Called) (x : Stmt-F Stmt Branch TimeoutTree) → (extent called) (roll-Stmt x) ≡ (stmt_extent called) (map-Stmt Stmt Branch TimeoutTree Extent Extent Extent (extent called) (extent_of_branch called) (extent_of_timeout called) x)
unfolding extent extent_of_branch extent_of_timeout
extent_layer called x = fold-roll-Stmt Extent Extent Extent (stmt_extent called) branch_extent timeout_extent x

pub extent-Assign : (called : Called) (name : List ℕ) (x : Expr) (line : ℕ) → (extent called) (stmt.Assign name x line) ≡ (stmt_extent called) (Stmt-F.Assign name x line)
extent-Assign called name x line = ap (extent called) (sym (stmt.rolls-Assign name x line)) ∙ extent_layer called (Stmt-F.Assign name x line)

pub extent-Add : (called : Called) (name : List ℕ) (x : Expr) (line : ℕ) → (extent called) (stmt.Add name x line) ≡ (stmt_extent called) (Stmt-F.Add name x line)
extent-Add called name x line = ap (extent called) (sym (stmt.rolls-Add name x line)) ∙ extent_layer called (Stmt-F.Add name x line)

pub extent-Del : (called : Called) (name : List ℕ) (x : Expr) (line : ℕ) → (extent called) (stmt.Del name x line) ≡ (stmt_extent called) (Stmt-F.Del name x line)
extent-Del called name x line = ap (extent called) (sym (stmt.rolls-Del name x line)) ∙ extent_layer called (Stmt-F.Del name x line)

pub extent-Send : (called : Called) (x : Expr) (to : Expr) (line : ℕ) → (extent called) (stmt.Send x to line) ≡ (stmt_extent called) (Stmt-F.Send x to line)
extent-Send called x to line = ap (extent called) (sym (stmt.rolls-Send x to line)) ∙ extent_layer called (Stmt-F.Send x to line)

pub extent-Output : (called : Called) (x : Expr) (line : ℕ) → (extent called) (stmt.Output x line) ≡ (stmt_extent called) (Stmt-F.Output x line)
extent-Output called x line = ap (extent called) (sym (stmt.rolls-Output x line)) ∙ extent_layer called (Stmt-F.Output x line)

pub extent-Pass : (called : Called) (line : ℕ) → (extent called) (stmt.Pass line) ≡ (stmt_extent called) (Stmt-F.Pass line)
extent-Pass called line = ap (extent called) (sym (stmt.rolls-Pass line)) ∙ extent_layer called (Stmt-F.Pass line)

pub extent-Label : (called : Called) (name : List ℕ) (line : ℕ) → (extent called) (stmt.Label name line) ≡ (stmt_extent called) (Stmt-F.Label name line)
extent-Label called name line = ap (extent called) (sym (stmt.rolls-Label name line)) ∙ extent_layer called (Stmt-F.Label name line)

pub extent-Call : (called : Called) (name : List ℕ) (xs : List Expr) (line : ℕ) → (extent called) (stmt.Call name xs line) ≡ (stmt_extent called) (Stmt-F.Call name xs line)
extent-Call called name xs line = ap (extent called) (sym (stmt.rolls-Call name xs line)) ∙ extent_layer called (Stmt-F.Call name xs line)

pub extent-If : (called : Called) (branches : List Branch) (other : Option (List Stmt)) (line : ℕ) → (extent called) (stmt.If branches other line) ≡ (stmt_extent called) (Stmt-F.If (map (extent_of_branch called) branches) (option_map (map (extent called)) other) line)
extent-If called branches None line = ap (extent called) (sym (stmt.rolls-If branches None line)) ∙ extent_layer called (Stmt-F.If branches None line)
extent-If called branches (Some o) line = ap (extent called) (sym (stmt.rolls-If branches (Some o) line)) ∙ extent_layer called (Stmt-F.If branches (Some o) line)

pub extent-While : (called : Called) (x : Expr) (body : List Stmt) (line : ℕ) → (extent called) (stmt.While x body line) ≡ (stmt_extent called) (Stmt-F.While x (map (extent called) body) line)
extent-While called x body line = ap (extent called) (sym (stmt.rolls-While x body line)) ∙ extent_layer called (Stmt-F.While x body line)

pub extent-For : (called : Called) (name : List ℕ) (x : Expr) (body : List Stmt) (line : ℕ) → (extent called) (stmt.For name x body line) ≡ (stmt_extent called) (Stmt-F.For name x (map (extent called) body) line)
extent-For called name x body line = ap (extent called) (sym (stmt.rolls-For name x body line)) ∙ extent_layer called (Stmt-F.For name x body line)

pub extent-AwaitOne : (called : Called) (x : Expr) (line : ℕ) → (extent called) (stmt.AwaitOne x line) ≡ (stmt_extent called) (Stmt-F.AwaitOne x line)
extent-AwaitOne called x line = ap (extent called) (sym (stmt.rolls-AwaitOne x line)) ∙ extent_layer called (Stmt-F.AwaitOne x line)

pub extent-Await : (called : Called) (alts : List Branch) (timeout : Option TimeoutTree) (line : ℕ) → (extent called) (stmt.Await alts timeout line) ≡ (stmt_extent called) (Stmt-F.Await (map (extent_of_branch called) alts) (option_map (extent_of_timeout called) timeout) line)
extent-Await called alts None line = ap (extent called) (sym (stmt.rolls-Await alts None line)) ∙ extent_layer called (Stmt-F.Await alts None line)
extent-Await called alts (Some o) line = ap (extent called) (sym (stmt.rolls-Await alts (Some o) line)) ∙ extent_layer called (Stmt-F.Await alts (Some o) line)

pub extent_of_branch-of : (called : Called) (cond_ : Expr) (body_ : List Stmt) (line_ : ℕ) → (extent_of_branch called) (roll-Branch (record { cond = cond_; body = body_; line = line_ })) ≡ branch_extent (record { cond = cond_; body = (map (extent called) body_); line = line_ })
unfolding extent extent_of_branch extent_of_timeout
extent_of_branch-of called cond_ body_ line_ = fold-roll-Branch Extent Extent Extent (stmt_extent called) branch_extent timeout_extent (record { cond = cond_; body = body_; line = line_ })

pub extent_of_timeout-of : (called : Called) (body_ : List Stmt) (line_ : ℕ) → (extent_of_timeout called) (roll-TimeoutTree (record { body = body_; line = line_ })) ≡ timeout_extent (record { body = (map (extent called) body_); line = line_ })
unfolding extent extent_of_branch extent_of_timeout
extent_of_timeout-of called body_ line_ = fold-roll-TimeoutTree Extent Extent Extent (stmt_extent called) branch_extent timeout_extent (record { body = body_; line = line_ })

pub ruleset counting = (extent-Assign, extent-Add, extent-Del, extent-Send, extent-Output, extent-Pass, extent-Label, extent-Call, extent-If, extent-While, extent-For, extent-AwaitOne, extent-Await, extent_of_branch-of, extent_of_timeout-of)
