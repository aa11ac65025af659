-- The names that statements change, one layer at a time, in the shape in which code appends them.
use Rattle.std.specs.Prelude.{ℕ, List, [], ◌∷◌, ◌++◌, map, flat_map, Option, Some, None, option_to_list, refl}
use Rattle.std.specs.Option.{option_map}
use Rattle.std.proofs.Common.{◌≡◌, ◌∙◌, ap, sym, append_assoc}
use Rattle.std.proofs.lemmas.List.{append-nil}
use Rattle.da_lang.specs.declared.tree.Branch.{Branch, out-Branch, roll-out-Branch}
use Rattle.da_lang.specs.declared.tree.Expr.{Expr}
use Rattle.da_lang.specs.declared.tree.Stmt.{Stmt, roll-Stmt}
use Rattle.da_lang.specs.declared.tree.Stmt.TheVariants as stmt
use Rattle.da_lang.specs.declared.tree.Stmt.TheOpen.{Stmt-F}
use Rattle.da_lang.specs.declared.tree.Stmt.TheFolds.{map-Stmt, fold-roll-Stmt, fold-roll-Branch, fold-roll-TimeoutTree}
use Rattle.da_lang.specs.declared.tree.TimeoutTree.{TimeoutTree, out-TimeoutTree, roll-out-TimeoutTree}
use Rattle.added_names.specs.Changes.{Changes, all, all_if, change, stmt_changes, branch_changes, timeout_changes, else_changes, late_changes, stmt_step, branch_step, timeout_step}

pub all-map : {A : Type 0} (f : A → Changes) (xs : List A) → all (map f xs) ≡ flat_map f xs
all-map f [] = refl
all-map f (x ∷ xs) = ap (λ parts. f x ++ parts) (all-map f xs)

layer : (x : Stmt-F Stmt Branch TimeoutTree) → stmt_changes (roll-Stmt x) ≡ stmt_step (map-Stmt Stmt Branch TimeoutTree Changes Changes Changes stmt_changes branch_changes timeout_changes x)
unfolding stmt_changes branch_changes timeout_changes
layer x = fold-roll-Stmt Changes Changes Changes stmt_step branch_step timeout_step x

else_all : (other : Option (List Stmt)) → all_if (option_map (map stmt_changes) other) ≡ else_changes other
unfolding else_changes
else_all None = refl
else_all (Some body) = all-map stmt_changes body

timeout_by : (t : TimeoutTree) → timeout_changes t ≡ flat_map stmt_changes (out-TimeoutTree t).body
unfolding stmt_changes branch_changes timeout_changes
timeout_by t = ap timeout_changes (sym (roll-out-TimeoutTree t)) ∙ fold-roll-TimeoutTree Changes Changes Changes stmt_step branch_step timeout_step (out-TimeoutTree t) ∙ all-map stmt_changes (out-TimeoutTree t).body

late_all : (late : Option TimeoutTree) → all (option_to_list (option_map timeout_changes late)) ≡ late_changes late
unfolding late_changes
late_all None = refl
late_all (Some t) = append-nil (timeout_changes t)

pub late_of : (t : TimeoutTree) → late_changes (Some t) ≡ flat_map stmt_changes (out-TimeoutTree t).body
unfolding late_changes
late_of t = timeout_by t

pub late-None : late_changes None ≡ []
unfolding late_changes
late-None = refl

pub else-None : else_changes None ≡ []
unfolding else_changes
else-None = refl

pub else-Some : (body : List Stmt) → else_changes (Some body) ≡ flat_map stmt_changes body
unfolding else_changes
else-Some body = refl

pub at-Assign : (name : List ℕ) (x : Expr) (line : ℕ) → stmt_changes (stmt.Assign name x line) ≡ change name line
at-Assign name x line = ap stmt_changes (sym (stmt.rolls-Assign name x line)) ∙ layer (Stmt-F.Assign name x line)

pub at-Add : (name : List ℕ) (x : Expr) (line : ℕ) → stmt_changes (stmt.Add name x line) ≡ change name line
at-Add name x line = ap stmt_changes (sym (stmt.rolls-Add name x line)) ∙ layer (Stmt-F.Add name x line)

pub at-Del : (name : List ℕ) (x : Expr) (line : ℕ) → stmt_changes (stmt.Del name x line) ≡ change name line
at-Del name x line = ap stmt_changes (sym (stmt.rolls-Del name x line)) ∙ layer (Stmt-F.Del name x line)

pub at-Send : (x : Expr) (to : Expr) (line : ℕ) → stmt_changes (stmt.Send x to line) ≡ []
at-Send x to line = ap stmt_changes (sym (stmt.rolls-Send x to line)) ∙ layer (Stmt-F.Send x to line)

pub at-Output : (x : Expr) (line : ℕ) → stmt_changes (stmt.Output x line) ≡ []
at-Output x line = ap stmt_changes (sym (stmt.rolls-Output x line)) ∙ layer (Stmt-F.Output x line)

pub at-Pass : (line : ℕ) → stmt_changes (stmt.Pass line) ≡ []
at-Pass line = ap stmt_changes (sym (stmt.rolls-Pass line)) ∙ layer (Stmt-F.Pass line)

pub at-Label : (name : List ℕ) (line : ℕ) → stmt_changes (stmt.Label name line) ≡ []
at-Label name line = ap stmt_changes (sym (stmt.rolls-Label name line)) ∙ layer (Stmt-F.Label name line)

pub at-Call : (name : List ℕ) (xs : List Expr) (line : ℕ) → stmt_changes (stmt.Call name xs line) ≡ []
at-Call name xs line = ap stmt_changes (sym (stmt.rolls-Call name xs line)) ∙ layer (Stmt-F.Call name xs line)

pub at-While : (x : Expr) (body : List Stmt) (line : ℕ) → stmt_changes (stmt.While x body line) ≡ flat_map stmt_changes body
at-While x body line = ap stmt_changes (sym (stmt.rolls-While x body line)) ∙ layer (Stmt-F.While x body line) ∙ all-map stmt_changes body

pub at-For : (name : List ℕ) (x : Expr) (body : List Stmt) (line : ℕ) → stmt_changes (stmt.For name x body line) ≡ flat_map stmt_changes body
at-For name x body line = ap stmt_changes (sym (stmt.rolls-For name x body line)) ∙ layer (Stmt-F.For name x body line) ∙ all-map stmt_changes body

pub at-AwaitOne : (x : Expr) (line : ℕ) → stmt_changes (stmt.AwaitOne x line) ≡ []
at-AwaitOne x line = ap stmt_changes (sym (stmt.rolls-AwaitOne x line)) ∙ layer (Stmt-F.AwaitOne x line)

if_by : (branches : List Branch) (other : Option (List Stmt)) (line : ℕ) → stmt_changes (stmt.If branches other line) ≡ all (map branch_changes branches) ++ all_if (option_map (map stmt_changes) other)
if_by branches None line = ap stmt_changes (sym (stmt.rolls-If branches None line)) ∙ layer (Stmt-F.If branches None line)
if_by branches (Some body) line = ap stmt_changes (sym (stmt.rolls-If branches (Some body) line)) ∙ layer (Stmt-F.If branches (Some body) line)

pub at-If : (branches : List Branch) (other : Option (List Stmt)) (line : ℕ) → stmt_changes (stmt.If branches other line) ≡ flat_map branch_changes branches ++ else_changes other
at-If branches other line = if_by branches other line ∙ ap (λ parts. parts ++ all_if (option_map (map stmt_changes) other)) (all-map branch_changes branches) ∙ ap (λ parts. flat_map branch_changes branches ++ parts) (else_all other)

await_by : (alts : List Branch) (late : Option TimeoutTree) (line : ℕ) → stmt_changes (stmt.Await alts late line) ≡ all (map branch_changes alts) ++ all (option_to_list (option_map timeout_changes late))
await_by alts None line = ap stmt_changes (sym (stmt.rolls-Await alts None line)) ∙ layer (Stmt-F.Await alts None line)
await_by alts (Some t) line = ap stmt_changes (sym (stmt.rolls-Await alts (Some t) line)) ∙ layer (Stmt-F.Await alts (Some t) line)

pub at-Await : (alts : List Branch) (late : Option TimeoutTree) (line : ℕ) → stmt_changes (stmt.Await alts late line) ≡ flat_map branch_changes alts ++ late_changes late
at-Await alts late line = await_by alts late line ∙ ap (λ parts. parts ++ all (option_to_list (option_map timeout_changes late))) (all-map branch_changes alts) ∙ ap (λ parts. flat_map branch_changes alts ++ parts) (late_all late)

pub branch_of : (b : Branch) → branch_changes b ≡ flat_map stmt_changes (out-Branch b).body
unfolding stmt_changes branch_changes timeout_changes
branch_of b = let v = out-Branch b in ap branch_changes (sym (roll-out-Branch b)) ∙ fold-roll-Branch Changes Changes Changes stmt_step branch_step timeout_step v ∙ all-map stmt_changes v.body

pub ruleset stmt_rules = (append_assoc, append-nil, at-If, at-Await, at-Assign, at-Add, at-Del, at-Send, at-Output, at-Pass, at-Label, at-Call, at-While, at-For, at-AwaitOne, else-None, else-Some, late-None, late_of)

pub ruleset branch_rules = (append_assoc, append-nil, branch_of)
