-- The tags in statements, one layer at a time, in the shape in which code appends them.
use Rattle.std.specs.Prelude.{ℕ, List, [], ◌∷◌, ◌++◌, map, flat_map, Option, Some, None, option_to_list, refl}
use Rattle.std.specs.Option.{option_map}
use Rattle.std.proofs.Common.{◌≡◌, ◌∙◌, ap, sym, append_assoc}
use Rattle.std.proofs.lemmas.List.{append-nil}
use Rattle.da_lang.specs.declared.tree.Branch.{Branch, out-Branch, roll-out-Branch}
use Rattle.da_lang.specs.declared.tree.Expr.{Expr}
use Rattle.da_lang.specs.declared.tree.Stmt.{Stmt, roll-Stmt}
use Rattle.da_lang.specs.declared.tree.Stmt.TheVariants as stmt
use Rattle.da_lang.specs.declared.tree.Stmt.TheOpen.{Stmt-F}
use Rattle.da_lang.specs.declared.tree.Stmt.TheFolds.{map-Stmt, fold-roll-Stmt, fold-roll-Branch, fold-roll-TimeoutTree}
use Rattle.da_lang.specs.declared.tree.TimeoutTree.{TimeoutTree, out-TimeoutTree, roll-out-TimeoutTree}
use Rattle.added_names.specs.Tags.{Tags, all, tags_in}
use Rattle.added_names.specs.StmtTags.{all_if, send_tags, stmt_tags, branch_tags, timeout_tags, else_tags, late_tags, stmt_step, branch_step, timeout_step}

pub all-map : {A : Type 0} (f : A → Tags) (xs : List A) → all (map f xs) ≡ flat_map f xs
all-map f [] = refl
all-map f (x ∷ xs) = ap (λ parts. f x ++ parts) (all-map f xs)

layer : (x : Stmt-F Stmt Branch TimeoutTree) → stmt_tags (roll-Stmt x) ≡ stmt_step (map-Stmt Stmt Branch TimeoutTree Tags Tags Tags stmt_tags branch_tags timeout_tags x)
unfolding stmt_tags branch_tags timeout_tags
layer x = fold-roll-Stmt Tags Tags Tags stmt_step branch_step timeout_step x

else_all : (other : Option (List Stmt)) → all_if (option_map (map stmt_tags) other) ≡ else_tags other
unfolding else_tags
else_all None = refl
else_all (Some body) = all-map stmt_tags body

timeout_by : (t : TimeoutTree) → timeout_tags t ≡ flat_map stmt_tags (out-TimeoutTree t).body
unfolding stmt_tags branch_tags timeout_tags
timeout_by t = ap timeout_tags (sym (roll-out-TimeoutTree t)) ∙ fold-roll-TimeoutTree Tags Tags Tags stmt_step branch_step timeout_step (out-TimeoutTree t) ∙ all-map stmt_tags (out-TimeoutTree t).body

late_all : (late : Option TimeoutTree) → all (option_to_list (option_map timeout_tags late)) ≡ late_tags late
unfolding late_tags
late_all None = refl
late_all (Some t) = append-nil (timeout_tags t)

pub late_of : (t : TimeoutTree) → late_tags (Some t) ≡ flat_map stmt_tags (out-TimeoutTree t).body
unfolding late_tags
late_of t = timeout_by t

pub late-None : late_tags None ≡ []
unfolding late_tags
late-None = refl

pub else-None : else_tags None ≡ []
unfolding else_tags
else-None = refl

pub else-Some : (body : List Stmt) → else_tags (Some body) ≡ flat_map stmt_tags body
unfolding else_tags
else-Some body = refl

pub at-Assign : (name : List ℕ) (x : Expr) (line : ℕ) → stmt_tags (stmt.Assign name x line) ≡ tags_in line x
at-Assign name x line = ap stmt_tags (sym (stmt.rolls-Assign name x line)) ∙ layer (Stmt-F.Assign name x line)

pub at-Add : (name : List ℕ) (x : Expr) (line : ℕ) → stmt_tags (stmt.Add name x line) ≡ tags_in line x
at-Add name x line = ap stmt_tags (sym (stmt.rolls-Add name x line)) ∙ layer (Stmt-F.Add name x line)

pub at-Del : (name : List ℕ) (x : Expr) (line : ℕ) → stmt_tags (stmt.Del name x line) ≡ tags_in line x
at-Del name x line = ap stmt_tags (sym (stmt.rolls-Del name x line)) ∙ layer (Stmt-F.Del name x line)

pub at-Send : (x : Expr) (to : Expr) (line : ℕ) → stmt_tags (stmt.Send x to line) ≡ send_tags line x to
at-Send x to line = ap stmt_tags (sym (stmt.rolls-Send x to line)) ∙ layer (Stmt-F.Send x to line)

pub at-Output : (x : Expr) (line : ℕ) → stmt_tags (stmt.Output x line) ≡ tags_in line x
at-Output x line = ap stmt_tags (sym (stmt.rolls-Output x line)) ∙ layer (Stmt-F.Output x line)

pub at-Pass : (line : ℕ) → stmt_tags (stmt.Pass line) ≡ []
at-Pass line = ap stmt_tags (sym (stmt.rolls-Pass line)) ∙ layer (Stmt-F.Pass line)

pub at-Label : (name : List ℕ) (line : ℕ) → stmt_tags (stmt.Label name line) ≡ []
at-Label name line = ap stmt_tags (sym (stmt.rolls-Label name line)) ∙ layer (Stmt-F.Label name line)

pub at-Call : (name : List ℕ) (xs : List Expr) (line : ℕ) → stmt_tags (stmt.Call name xs line) ≡ flat_map (tags_in line) xs
at-Call name xs line = ap stmt_tags (sym (stmt.rolls-Call name xs line)) ∙ layer (Stmt-F.Call name xs line)

pub at-While : (x : Expr) (body : List Stmt) (line : ℕ) → stmt_tags (stmt.While x body line) ≡ tags_in line x ++ flat_map stmt_tags body
at-While x body line = ap stmt_tags (sym (stmt.rolls-While x body line)) ∙ layer (Stmt-F.While x body line) ∙ ap (λ parts. tags_in line x ++ parts) (all-map stmt_tags body)

pub at-For : (name : List ℕ) (x : Expr) (body : List Stmt) (line : ℕ) → stmt_tags (stmt.For name x body line) ≡ tags_in line x ++ flat_map stmt_tags body
at-For name x body line = ap stmt_tags (sym (stmt.rolls-For name x body line)) ∙ layer (Stmt-F.For name x body line) ∙ ap (λ parts. tags_in line x ++ parts) (all-map stmt_tags body)

pub at-AwaitOne : (x : Expr) (line : ℕ) → stmt_tags (stmt.AwaitOne x line) ≡ tags_in line x
at-AwaitOne x line = ap stmt_tags (sym (stmt.rolls-AwaitOne x line)) ∙ layer (Stmt-F.AwaitOne x line)

if_by : (branches : List Branch) (other : Option (List Stmt)) (line : ℕ) → stmt_tags (stmt.If branches other line) ≡ all (map branch_tags branches) ++ all_if (option_map (map stmt_tags) other)
if_by branches None line = ap stmt_tags (sym (stmt.rolls-If branches None line)) ∙ layer (Stmt-F.If branches None line)
if_by branches (Some body) line = ap stmt_tags (sym (stmt.rolls-If branches (Some body) line)) ∙ layer (Stmt-F.If branches (Some body) line)

pub at-If : (branches : List Branch) (other : Option (List Stmt)) (line : ℕ) → stmt_tags (stmt.If branches other line) ≡ flat_map branch_tags branches ++ else_tags other
at-If branches other line = if_by branches other line ∙ ap (λ parts. parts ++ all_if (option_map (map stmt_tags) other)) (all-map branch_tags branches) ∙ ap (λ parts. flat_map branch_tags branches ++ parts) (else_all other)

await_by : (alts : List Branch) (late : Option TimeoutTree) (line : ℕ) → stmt_tags (stmt.Await alts late line) ≡ all (map branch_tags alts) ++ all (option_to_list (option_map timeout_tags late))
await_by alts None line = ap stmt_tags (sym (stmt.rolls-Await alts None line)) ∙ layer (Stmt-F.Await alts None line)
await_by alts (Some t) line = ap stmt_tags (sym (stmt.rolls-Await alts (Some t) line)) ∙ layer (Stmt-F.Await alts (Some t) line)

pub at-Await : (alts : List Branch) (late : Option TimeoutTree) (line : ℕ) → stmt_tags (stmt.Await alts late line) ≡ flat_map branch_tags alts ++ late_tags late
at-Await alts late line = await_by alts late line ∙ ap (λ parts. parts ++ all (option_to_list (option_map timeout_tags late))) (all-map branch_tags alts) ∙ ap (λ parts. flat_map branch_tags alts ++ parts) (late_all late)

pub branch_of : (b : Branch) → branch_tags b ≡ tags_in (out-Branch b).line (out-Branch b).cond ++ flat_map stmt_tags (out-Branch b).body
unfolding stmt_tags branch_tags timeout_tags
branch_of b = let v = out-Branch b in ap branch_tags (sym (roll-out-Branch b)) ∙ fold-roll-Branch Tags Tags Tags stmt_step branch_step timeout_step v ∙ ap (λ parts. tags_in v.line v.cond ++ parts) (all-map stmt_tags v.body)

pub ruleset stmt_rules = (append_assoc, append-nil, at-If, at-Await, at-Assign, at-Add, at-Del, at-Send, at-Output, at-Pass, at-Label, at-Call, at-While, at-For, at-AwaitOne, else-None, else-Some, late-None, late_of)

pub ruleset branch_rules = (append_assoc, append-nil, branch_of)
