-- What statements become, one layer at a time.
use Rattle.std.specs.Prelude.{ℕ, List, map, Option, Some, None}
use Rattle.std.specs.Option.{option_map}
use Rattle.std.proofs.Common.{◌≡◌, ◌∙◌, ap, sym}
use Rattle.da_lang.specs.declared.tree.Branch.{Branch, roll-Branch}
use Rattle.da_lang.specs.declared.tree.Expr.{Expr}
use Rattle.da_lang.specs.declared.tree.Stmt.{Stmt, roll-Stmt}
use Rattle.da_lang.specs.declared.tree.Stmt.TheVariants as stmt
use Rattle.da_lang.specs.declared.tree.Stmt.TheOpen.{Stmt-F}
use Rattle.da_lang.specs.declared.tree.Stmt.TheFolds.{map-Stmt, fold-roll-Stmt, fold-roll-Branch, fold-roll-TimeoutTree}
use Rattle.da_lang.specs.declared.tree.TimeoutTree.{TimeoutTree, roll-TimeoutTree}
use Rattle.da_lang.specs.ExprMeaning.{Meaning, Tables}
use Rattle.da_lang.specs.Scopes.{Scope}
use Rattle.da_lang.specs.BodyMeaning.{Copy, Stating, Guarded, stating, guarding, waiting, stmt_meant, branch_meant, timeout_meant}

stating_layer : (copy : Copy) (x : Stmt-F Stmt Branch TimeoutTree) → (stating copy) (roll-Stmt x) ≡ (stmt_meant copy) (map-Stmt Stmt Branch TimeoutTree Stating Guarded (List Stating) (stating copy) (guarding copy) (waiting copy) x)
unfolding stating guarding waiting
stating_layer copy x = fold-roll-Stmt Stating Guarded (List Stating) (stmt_meant copy) branch_meant timeout_meant x

pub stating-Assign : (copy : Copy) (name : List ℕ) (x : Expr) (line : ℕ) → (stating copy) (stmt.Assign name x line) ≡ (stmt_meant copy) (Stmt-F.Assign name x line)
stating-Assign copy name x line = ap ((stating copy)) (sym (stmt.rolls-Assign name x line)) ∙ stating_layer copy (Stmt-F.Assign name x line)

pub stating-Add : (copy : Copy) (name : List ℕ) (x : Expr) (line : ℕ) → (stating copy) (stmt.Add name x line) ≡ (stmt_meant copy) (Stmt-F.Add name x line)
stating-Add copy name x line = ap ((stating copy)) (sym (stmt.rolls-Add name x line)) ∙ stating_layer copy (Stmt-F.Add name x line)

pub stating-Del : (copy : Copy) (name : List ℕ) (x : Expr) (line : ℕ) → (stating copy) (stmt.Del name x line) ≡ (stmt_meant copy) (Stmt-F.Del name x line)
stating-Del copy name x line = ap ((stating copy)) (sym (stmt.rolls-Del name x line)) ∙ stating_layer copy (Stmt-F.Del name x line)

pub stating-Send : (copy : Copy) (x : Expr) (to : Expr) (line : ℕ) → (stating copy) (stmt.Send x to line) ≡ (stmt_meant copy) (Stmt-F.Send x to line)
stating-Send copy x to line = ap ((stating copy)) (sym (stmt.rolls-Send x to line)) ∙ stating_layer copy (Stmt-F.Send x to line)

pub stating-Output : (copy : Copy) (x : Expr) (line : ℕ) → (stating copy) (stmt.Output x line) ≡ (stmt_meant copy) (Stmt-F.Output x line)
stating-Output copy x line = ap ((stating copy)) (sym (stmt.rolls-Output x line)) ∙ stating_layer copy (Stmt-F.Output x line)

pub stating-Pass : (copy : Copy) (line : ℕ) → (stating copy) (stmt.Pass line) ≡ (stmt_meant copy) (Stmt-F.Pass line)
stating-Pass copy line = ap ((stating copy)) (sym (stmt.rolls-Pass line)) ∙ stating_layer copy (Stmt-F.Pass line)

pub stating-Label : (copy : Copy) (name : List ℕ) (line : ℕ) → (stating copy) (stmt.Label name line) ≡ (stmt_meant copy) (Stmt-F.Label name line)
stating-Label copy name line = ap ((stating copy)) (sym (stmt.rolls-Label name line)) ∙ stating_layer copy (Stmt-F.Label name line)

pub stating-Call : (copy : Copy) (name : List ℕ) (xs : List Expr) (line : ℕ) → (stating copy) (stmt.Call name xs line) ≡ (stmt_meant copy) (Stmt-F.Call name xs line)
stating-Call copy name xs line = ap ((stating copy)) (sym (stmt.rolls-Call name xs line)) ∙ stating_layer copy (Stmt-F.Call name xs line)

pub stating-If : (copy : Copy) (branches : List Branch) (other : Option (List Stmt)) (line : ℕ) → (stating copy) (stmt.If branches other line) ≡ (stmt_meant copy) (Stmt-F.If (map (guarding copy) branches) (option_map (map (stating copy)) other) line)
stating-If copy branches None line = ap ((stating copy)) (sym (stmt.rolls-If branches None line)) ∙ stating_layer copy (Stmt-F.If branches None line)
stating-If copy branches (Some o) line = ap ((stating copy)) (sym (stmt.rolls-If branches (Some o) line)) ∙ stating_layer copy (Stmt-F.If branches (Some o) line)

pub stating-While : (copy : Copy) (x : Expr) (body : List Stmt) (line : ℕ) → (stating copy) (stmt.While x body line) ≡ (stmt_meant copy) (Stmt-F.While x (map (stating copy) body) line)
stating-While copy x body line = ap ((stating copy)) (sym (stmt.rolls-While x body line)) ∙ stating_layer copy (Stmt-F.While x body line)

pub stating-For : (copy : Copy) (name : List ℕ) (x : Expr) (body : List Stmt) (line : ℕ) → (stating copy) (stmt.For name x body line) ≡ (stmt_meant copy) (Stmt-F.For name x (map (stating copy) body) line)
stating-For copy name x body line = ap ((stating copy)) (sym (stmt.rolls-For name x body line)) ∙ stating_layer copy (Stmt-F.For name x body line)

pub stating-AwaitOne : (copy : Copy) (x : Expr) (line : ℕ) → (stating copy) (stmt.AwaitOne x line) ≡ (stmt_meant copy) (Stmt-F.AwaitOne x line)
stating-AwaitOne copy x line = ap ((stating copy)) (sym (stmt.rolls-AwaitOne x line)) ∙ stating_layer copy (Stmt-F.AwaitOne x line)

pub stating-Await : (copy : Copy) (alts : List Branch) (timeout : Option TimeoutTree) (line : ℕ) → (stating copy) (stmt.Await alts timeout line) ≡ (stmt_meant copy) (Stmt-F.Await (map (guarding copy) alts) (option_map (waiting copy) timeout) line)
stating-Await copy alts None line = ap ((stating copy)) (sym (stmt.rolls-Await alts None line)) ∙ stating_layer copy (Stmt-F.Await alts None line)
stating-Await copy alts (Some o) line = ap ((stating copy)) (sym (stmt.rolls-Await alts (Some o) line)) ∙ stating_layer copy (Stmt-F.Await alts (Some o) line)

pub guarding-of : (copy : Copy) (cond_ : Expr) (body_ : List Stmt) (line_ : ℕ) → (guarding copy) (roll-Branch (record { cond = cond_; body = body_; line = line_ })) ≡ branch_meant (record { cond = cond_; body = (map (stating copy) body_); line = line_ })
unfolding stating guarding waiting
guarding-of copy cond_ body_ line_ = fold-roll-Branch Stating Guarded (List Stating) (stmt_meant copy) branch_meant timeout_meant (record { cond = cond_; body = body_; line = line_ })

pub waiting-of : (copy : Copy) (body_ : List Stmt) (line_ : ℕ) → (waiting copy) (roll-TimeoutTree (record { body = body_; line = line_ })) ≡ timeout_meant (record { body = (map (stating copy) body_); line = line_ })
unfolding stating guarding waiting
waiting-of copy body_ line_ = fold-roll-TimeoutTree Stating Guarded (List Stating) (stmt_meant copy) branch_meant timeout_meant (record { body = body_; line = line_ })

-- the same where the names in scope, and what was met so far, are given
pub stating_in-Assign : (copy : Copy) (name : List ℕ) (x : Expr) (line : ℕ) (label : Option ℕ) (scope : Scope Meaning) (tables : Tables) → stating copy (stmt.Assign name x line) label scope tables ≡ stmt_meant copy (Stmt-F.Assign name x line) label scope tables
stating_in-Assign copy name x line label scope tables = ap (λ (f : Stating). f label scope tables) (stating-Assign copy name x line)

pub stating_in-Add : (copy : Copy) (name : List ℕ) (x : Expr) (line : ℕ) (label : Option ℕ) (scope : Scope Meaning) (tables : Tables) → stating copy (stmt.Add name x line) label scope tables ≡ stmt_meant copy (Stmt-F.Add name x line) label scope tables
stating_in-Add copy name x line label scope tables = ap (λ (f : Stating). f label scope tables) (stating-Add copy name x line)

pub stating_in-Del : (copy : Copy) (name : List ℕ) (x : Expr) (line : ℕ) (label : Option ℕ) (scope : Scope Meaning) (tables : Tables) → stating copy (stmt.Del name x line) label scope tables ≡ stmt_meant copy (Stmt-F.Del name x line) label scope tables
stating_in-Del copy name x line label scope tables = ap (λ (f : Stating). f label scope tables) (stating-Del copy name x line)

pub stating_in-Send : (copy : Copy) (x : Expr) (to : Expr) (line : ℕ) (label : Option ℕ) (scope : Scope Meaning) (tables : Tables) → stating copy (stmt.Send x to line) label scope tables ≡ stmt_meant copy (Stmt-F.Send x to line) label scope tables
stating_in-Send copy x to line label scope tables = ap (λ (f : Stating). f label scope tables) (stating-Send copy x to line)

pub stating_in-Output : (copy : Copy) (x : Expr) (line : ℕ) (label : Option ℕ) (scope : Scope Meaning) (tables : Tables) → stating copy (stmt.Output x line) label scope tables ≡ stmt_meant copy (Stmt-F.Output x line) label scope tables
stating_in-Output copy x line label scope tables = ap (λ (f : Stating). f label scope tables) (stating-Output copy x line)

pub stating_in-Pass : (copy : Copy) (line : ℕ) (label : Option ℕ) (scope : Scope Meaning) (tables : Tables) → stating copy (stmt.Pass line) label scope tables ≡ stmt_meant copy (Stmt-F.Pass line) label scope tables
stating_in-Pass copy line label scope tables = ap (λ (f : Stating). f label scope tables) (stating-Pass copy line)

pub stating_in-Label : (copy : Copy) (name : List ℕ) (line : ℕ) (label : Option ℕ) (scope : Scope Meaning) (tables : Tables) → stating copy (stmt.Label name line) label scope tables ≡ stmt_meant copy (Stmt-F.Label name line) label scope tables
stating_in-Label copy name line label scope tables = ap (λ (f : Stating). f label scope tables) (stating-Label copy name line)

pub stating_in-Call : (copy : Copy) (name : List ℕ) (xs : List Expr) (line : ℕ) (label : Option ℕ) (scope : Scope Meaning) (tables : Tables) → stating copy (stmt.Call name xs line) label scope tables ≡ stmt_meant copy (Stmt-F.Call name xs line) label scope tables
stating_in-Call copy name xs line label scope tables = ap (λ (f : Stating). f label scope tables) (stating-Call copy name xs line)

pub stating_in-If : (copy : Copy) (branches : List Branch) (other : Option (List Stmt)) (line : ℕ) (label : Option ℕ) (scope : Scope Meaning) (tables : Tables) → stating copy (stmt.If branches other line) label scope tables ≡ stmt_meant copy (Stmt-F.If (map (guarding copy) branches) (option_map (map (stating copy)) other) line) label scope tables
stating_in-If copy branches other line label scope tables = ap (λ (f : Stating). f label scope tables) (stating-If copy branches other line)

pub stating_in-While : (copy : Copy) (x : Expr) (body : List Stmt) (line : ℕ) (label : Option ℕ) (scope : Scope Meaning) (tables : Tables) → stating copy (stmt.While x body line) label scope tables ≡ stmt_meant copy (Stmt-F.While x (map (stating copy) body) line) label scope tables
stating_in-While copy x body line label scope tables = ap (λ (f : Stating). f label scope tables) (stating-While copy x body line)

pub stating_in-For : (copy : Copy) (name : List ℕ) (x : Expr) (body : List Stmt) (line : ℕ) (label : Option ℕ) (scope : Scope Meaning) (tables : Tables) → stating copy (stmt.For name x body line) label scope tables ≡ stmt_meant copy (Stmt-F.For name x (map (stating copy) body) line) label scope tables
stating_in-For copy name x body line label scope tables = ap (λ (f : Stating). f label scope tables) (stating-For copy name x body line)

pub stating_in-AwaitOne : (copy : Copy) (x : Expr) (line : ℕ) (label : Option ℕ) (scope : Scope Meaning) (tables : Tables) → stating copy (stmt.AwaitOne x line) label scope tables ≡ stmt_meant copy (Stmt-F.AwaitOne x line) label scope tables
stating_in-AwaitOne copy x line label scope tables = ap (λ (f : Stating). f label scope tables) (stating-AwaitOne copy x line)

pub stating_in-Await : (copy : Copy) (alts : List Branch) (timeout : Option TimeoutTree) (line : ℕ) (label : Option ℕ) (scope : Scope Meaning) (tables : Tables) → stating copy (stmt.Await alts timeout line) label scope tables ≡ stmt_meant copy (Stmt-F.Await (map (guarding copy) alts) (option_map (waiting copy) timeout) line) label scope tables
stating_in-Await copy alts timeout line label scope tables = ap (λ (f : Stating). f label scope tables) (stating-Await copy alts timeout line)

pub ruleset stating_in = (stating_in-Assign, stating_in-Add, stating_in-Del, stating_in-Send, stating_in-Output, stating_in-Pass, stating_in-Label, stating_in-Call, stating_in-If, stating_in-While, stating_in-For, stating_in-AwaitOne, stating_in-Await)

pub ruleset stating_at = (stating-Assign, stating-Add, stating-Del, stating-Send, stating-Output, stating-Pass, stating-Label, stating-Call, stating-If, stating-While, stating-For, stating-AwaitOne, stating-Await, guarding-of, waiting-of)
