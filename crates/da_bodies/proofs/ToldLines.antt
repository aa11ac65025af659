-- What is reported of a statement, by what is reported of its parts.
use Rattle.std.specs.Prelude.{◌≡◌, refl, ℕ, ◌+◌, ◌-◌, ◌<◌, length, take, drop, List, [], ◌∷◌, ◌++◌, map, flat_map, Option, Some, None, option_map, option_to_list}
use Rattle.std.specs.List.{fold}
use Rattle.std.proofs.Common.{◌∙◌, sym, ap, get_or}
use Rattle.std.proofs.lemmas.List.{append-nil, map-append, take_more}
use Rattle.std.proofs.lemmas.Grind.{flat_map-append}
use Rattle.da_lang.specs.declared.refusal.ScopeKind.{ScopeKind}
use Rattle.da_lang.specs.declared.tree.Branch.{Branch, out-Branch, roll-out-Branch}
use Rattle.da_lang.specs.declared.tree.Expr.{Expr}
use Rattle.da_lang.specs.declared.tree.Stmt.{Stmt}
use Rattle.da_lang.specs.declared.tree.Stmt.TheVariants as stmt
use Rattle.da_lang.specs.declared.tree.TimeoutTree.{TimeoutTree, out-TimeoutTree, roll-out-TimeoutTree}
use Rattle.da_lang.specs.ExprNames.{Role, Local, taken, refused_in, found_names}
use Rattle.da_lang.specs.Scopes.{Scope, look, entered, at_line}
use Rattle.da_lang.specs.StmtNames.{Refusing, Line, block, block_if, beside, says, changed, changes, line_of, branch_of, timeout_of}
use Rattle.da_lang.proofs.StmtNamesAt as at
use Rattle.da_bodies.specs.Telling.{Refusal, telling}
use Rattle.da_bodies.specs.Told.{entered_each, told_kinds, told_expr}
use Rattle.da_bodies.specs.ToldStmts.{told_stmt, told_branch, told_timeout, told_block, after_stmts}
use Rattle.da_bodies.proofs.SameLook.{SameLook, same_each, entered_each-append}
use Rattle.da_bodies.proofs.StmtLaws.{body_same}
use Rattle.da_bodies.proofs.ToldExprs.{pushed}
use Rattle.da_bodies.proofs.TellingLaws.{telling-nil, telling-append}

at_line-append : (line : ℕ) (xs ys : List ScopeKind) → at_line line (xs ++ ys) ≡ at_line line xs ++ at_line line ys
at_line-append line xs ys = let at : ScopeKind → Refusal = λ kind. record { kind = kind; line = line } in map-append at xs ys

-- expressions at a line
telling-says : (line : ℕ) (scope : Scope Role) (found : Option Refusal) (xs : List Expr) → telling found (says line xs scope) ≡ fold (told_expr line scope) found xs
unfolding told_expr told_kinds
telling-says line scope found [] = telling-nil found
telling-says line scope found (x ∷ xs) =
    ap (telling found) (at_line-append line (refused_in scope x) (flat_map (refused_in scope) xs))
    ∙ telling-append found (at_line line (refused_in scope x)) (says line xs scope)
    ∙ telling-says line scope (telling found (at_line line (refused_in scope x))) xs

then_block : (scope : Scope Role) (found : Option Refusal) (first : List Refusal) (body : List Stmt) → telling found (first ++ block (map line_of body) scope) ≡ told_block scope (telling found first) body
unfolding told_block
then_block scope found first body = telling-append found first (block (map line_of body) scope)

-- a block, where the names that come into scope come one after the other
pub told_block-same : (s t : Scope Role) (found : Option Refusal) (body : List Stmt) → SameLook s t → told_block s found body ≡ told_block t found body
unfolding told_block
told_block-same s t found body same = ap (telling found) (body_same body s t same)

module _ (scope : Scope Role) (found : Option Refusal) where
  told_by : (s : Stmt) (l : Line) → line_of s ≡ l → told_stmt scope found s ≡ telling found (l.refuses scope)
  unfolding told_stmt
  told_by s l is = ap (λ (k : Line). telling found (k.refuses scope)) is

  change : (line : ℕ) (name : List ℕ) (x : Expr) → telling found (changes line name x scope) ≡ told_expr line scope (told_kinds line found (changed (look scope name))) x
  unfolding told_kinds
  change line name x = telling-append found (at_line line (changed (look scope name))) (says line (x ∷ []) scope) ∙ telling-says line scope (telling found (at_line line (changed (look scope name)))) (x ∷ [])

  pub told_stmt-Assign : (name : List ℕ) (x : Expr) (line : ℕ) → told_stmt scope found (stmt.Assign name x line) ≡ told_expr line scope (told_kinds line found (changed (look scope name))) x
  told_stmt-Assign name x line = told_by (stmt.Assign name x line) _ (at.line_of-Assign name x line) ∙ change line name x

  pub told_stmt-Add : (name : List ℕ) (x : Expr) (line : ℕ) → told_stmt scope found (stmt.Add name x line) ≡ told_expr line scope (told_kinds line found (changed (look scope name))) x
  told_stmt-Add name x line = told_by (stmt.Add name x line) _ (at.line_of-Add name x line) ∙ change line name x

  pub told_stmt-Del : (name : List ℕ) (x : Expr) (line : ℕ) → told_stmt scope found (stmt.Del name x line) ≡ told_expr line scope (told_kinds line found (changed (look scope name))) x
  told_stmt-Del name x line = told_by (stmt.Del name x line) _ (at.line_of-Del name x line) ∙ change line name x

  pub told_stmt-Send : (x to : Expr) (line : ℕ) → told_stmt scope found (stmt.Send x to line) ≡ told_expr line scope (told_expr line scope found x) to
  told_stmt-Send x to line = told_by (stmt.Send x to line) _ (at.line_of-Send x to line) ∙ telling-says line scope found (x ∷ to ∷ [])

  pub told_stmt-Output : (x : Expr) (line : ℕ) → told_stmt scope found (stmt.Output x line) ≡ told_expr line scope found x
  told_stmt-Output x line = told_by (stmt.Output x line) _ (at.line_of-Output x line) ∙ telling-says line scope found (x ∷ [])

  pub told_stmt-Pass : (line : ℕ) → told_stmt scope found (stmt.Pass line) ≡ found
  told_stmt-Pass line = told_by (stmt.Pass line) _ (at.line_of-Pass line) ∙ telling-says line scope found []

  pub told_stmt-Label : (name : List ℕ) (line : ℕ) → told_stmt scope found (stmt.Label name line) ≡ found
  told_stmt-Label name line = told_by (stmt.Label name line) _ (at.line_of-Label name line) ∙ telling-says line scope found []

  pub told_stmt-Call : (name : List ℕ) (xs : List Expr) (line : ℕ) → told_stmt scope found (stmt.Call name xs line) ≡ fold (told_expr line scope) found xs
  told_stmt-Call name xs line = told_by (stmt.Call name xs line) _ (at.line_of-Call name xs line) ∙ telling-says line scope found xs

  pub told_stmt-While : (x : Expr) (body : List Stmt) (line : ℕ) → told_stmt scope found (stmt.While x body line) ≡ told_block scope (told_expr line scope found x) body
  told_stmt-While x body line =
      told_by (stmt.While x body line) _ (at.line_of-While x body line) ∙ then_block scope found (says line (x ∷ []) scope) body
      ∙ ap (λ f. told_block scope f body) (telling-says line scope found (x ∷ []))

  pub told_stmt-For : (name : List ℕ) (x : Expr) (body : List Stmt) (line : ℕ) → told_stmt scope found (stmt.For name x body line) ≡ told_block ((name, Local) ∷ scope) (told_kinds line (told_expr line scope found x) (taken (look scope name))) body
  unfolding told_kinds
  told_stmt-For name x body line =
      told_by (stmt.For name x body line) _ (at.line_of-For name x body line)
      ∙ then_block ((name, Local) ∷ scope) found (says line (x ∷ []) scope ++ at_line line (taken (look scope name))) body
      ∙ ap (λ f. told_block ((name, Local) ∷ scope) f body) (telling-append found (says line (x ∷ []) scope) (at_line line (taken (look scope name))) ∙ ap (λ f. telling f (at_line line (taken (look scope name)))) (telling-says line scope found (x ∷ [])))

  pub told_stmt-AwaitOne : (x : Expr) (line : ℕ) → told_stmt scope found (stmt.AwaitOne x line) ≡ told_expr line scope found x
  told_stmt-AwaitOne x line = told_by (stmt.AwaitOne x line) _ (at.line_of-AwaitOne x line) ∙ telling-says line scope found (x ∷ [])

-- branches
beside-append : (rs qs : List Refusing) (scope : Scope Role) → beside (rs ++ qs) scope ≡ beside rs scope ++ beside qs scope
beside-append rs qs scope = flat_map-append (λ (part : Refusing). part scope) rs qs

telling-branches : (scope : Scope Role) (found : Option Refusal) (bs : List Branch) → telling found (beside (map branch_of bs) scope) ≡ fold (told_branch scope) found bs
unfolding told_branch
telling-branches scope found [] = telling-nil found
telling-branches scope found (b ∷ bs) = telling-append found (branch_of b scope) (beside (map branch_of bs) scope) ∙ telling-branches scope (telling found (branch_of b scope)) bs

told_beside : (scope : Scope Role) (found : Option Refusal) (bs : List Branch) (qs : List Refusing) → telling found (beside (map branch_of bs ++ qs) scope) ≡ telling (fold (told_branch scope) found bs) (beside qs scope)
told_beside scope found bs qs =
    ap (telling found) (beside-append (map branch_of bs) qs scope) ∙ telling-append found (beside (map branch_of bs) scope) (beside qs scope)
    ∙ ap (λ f. telling f (beside qs scope)) (telling-branches scope found bs)

-- the block of `else`
pub told_else : Scope Role → Option Refusal → Option (List Stmt) → Option Refusal
told_else scope found None = found
told_else scope found (Some body) = told_block scope found body

pub told_else-None : (scope : Scope Role) (found : Option Refusal) → told_else scope found None ≡ found
unfolding told_else
told_else-None scope found = refl

pub told_else-Some : (scope : Scope Role) (found : Option Refusal) (body : List Stmt) → told_else scope found (Some body) ≡ told_block scope found body
unfolding told_else
told_else-Some scope found body = refl

else_block : (scope : Scope Role) (found : Option Refusal) (other : Option (List Stmt)) → telling found (beside (block_if (option_map (map line_of) other) ∷ []) scope) ≡ told_else scope found other
unfolding told_else told_block
else_block scope found None = telling-nil found
else_block scope found (Some body) = ap (telling found) (append-nil (block (map line_of body) scope))

pub told_stmt-If : (scope : Scope Role) (found : Option Refusal) (branches : List Branch) (other : Option (List Stmt)) (line : ℕ) → told_stmt scope found (stmt.If branches other line) ≡ told_else scope (fold (told_branch scope) found branches) other
told_stmt-If scope found branches other line =
    told_by scope found (stmt.If branches other line) _ (at.line_of-If branches other line)
    ∙ told_beside scope found branches (block_if (option_map (map line_of) other) ∷ [])
    ∙ else_block scope (fold (told_branch scope) found branches) other

late_block : (scope : Scope Role) (found : Option Refusal) (late : Option TimeoutTree) → telling found (beside (option_to_list (option_map timeout_of late)) scope) ≡ fold (told_timeout scope) found (option_to_list late)
unfolding told_timeout
late_block scope found None = telling-nil found
late_block scope found (Some t) = ap (telling found) (append-nil (timeout_of t scope))

pub told_stmt-Await : (scope : Scope Role) (found : Option Refusal) (branches : List Branch) (late : Option TimeoutTree) (line : ℕ) → told_stmt scope found (stmt.Await branches late line) ≡ fold (told_timeout scope) (fold (told_branch scope) found branches) (option_to_list late)
told_stmt-Await scope found branches late line =
    told_by scope found (stmt.Await branches late line) _ (at.line_of-Await branches late line)
    ∙ told_beside scope found branches (option_to_list (option_map timeout_of late))
    ∙ late_block scope (fold (told_branch scope) found branches) late

pub told_branch_of : (scope : Scope Role) (found : Option Refusal) (b : Branch) → told_branch scope found b ≡ told_block (entered_each Local (found_names (out-Branch b).cond) scope) (told_expr (out-Branch b).line scope found (out-Branch b).cond) (out-Branch b).body
unfolding told_branch
told_branch_of scope found b =
    let v = out-Branch b in
    ap (λ x. telling found (branch_of x scope)) (sym (roll-out-Branch b)) ∙ ap (telling found) (at.branch_at v.cond v.body v.line scope)
    ∙ then_block (entered Local (found_names v.cond) scope) found (says v.line (v.cond ∷ []) scope) v.body
    ∙ ap (λ f. told_block (entered Local (found_names v.cond) scope) f v.body) (telling-says v.line scope found (v.cond ∷ []))
    ∙ told_block-same (entered Local (found_names v.cond) scope) (entered_each Local (found_names v.cond) scope) (told_expr v.line scope found v.cond) v.body (same_each Local (found_names v.cond) scope)

pub told_timeout_of : (scope : Scope Role) (found : Option Refusal) (t : TimeoutTree) → told_timeout scope found t ≡ told_block scope found (out-TimeoutTree t).body
unfolding told_timeout told_block
told_timeout_of scope found t =
    let v = out-TimeoutTree t in
    ap (λ x. telling found (timeout_of x scope)) (sym (roll-out-TimeoutTree t)) ∙ ap (telling found) (at.timeout_at v.body v.line scope)

-- statements one after another
pub told_block-nil : (scope : Scope Role) (found : Option Refusal) → told_block scope found [] ≡ found
unfolding told_block
told_block-nil scope found = telling-nil found

pub after_stmts-nil : (scope : Scope Role) → after_stmts scope [] ≡ scope
unfolding after_stmts
after_stmts-nil scope = refl

pub after_stmts-append : (scope : Scope Role) (xs ys : List Stmt) → after_stmts scope (xs ++ ys) ≡ after_stmts (after_stmts scope xs) ys
unfolding after_stmts
after_stmts-append scope xs ys =
    ap (λ ns. entered_each Local ns scope) (flat_map-append (λ s. (line_of s).binds) xs ys)
    ∙ entered_each-append Local (flat_map (λ s. (line_of s).binds) xs) (flat_map (λ s. (line_of s).binds) ys) scope

told_block-cons : (scope : Scope Role) (found : Option Refusal) (s : Stmt) (body : List Stmt) → told_block scope found (s ∷ body) ≡ told_block (after_stmts scope (s ∷ [])) (told_stmt scope found s) body
unfolding told_block told_stmt after_stmts
told_block-cons scope found s body =
    let binds = (line_of s).binds in
    telling-append found ((line_of s).refuses scope) (block (map line_of body) (entered Local binds scope))
    ∙ ap (telling (telling found ((line_of s).refuses scope))) (body_same body (entered Local binds scope) (entered_each Local binds scope) (same_each Local binds scope))
    ∙ ap (λ ns. telling (telling found ((line_of s).refuses scope)) (block (map line_of body) (entered_each Local ns scope))) (sym (append-nil binds))

pub told_block-snoc : (scope : Scope Role) (found : Option Refusal) (body : List Stmt) (s : Stmt) → told_block scope found (body ++ s ∷ []) ≡ told_stmt (after_stmts scope body) (told_block scope found body) s
told_block-snoc scope found [] s =
    told_block-cons scope found s [] ∙ told_block-nil (after_stmts scope (s ∷ [])) (told_stmt scope found s)
    ∙ ap (λ t. told_stmt t found s) (sym (after_stmts-nil scope)) ∙ ap (λ f. told_stmt (after_stmts scope []) f s) (sym (told_block-nil scope found))
told_block-snoc scope found (x ∷ body) s =
    told_block-cons scope found x (body ++ s ∷ []) ∙ told_block-snoc (after_stmts scope (x ∷ [])) (told_stmt scope found x) body s
    ∙ ap (λ t. told_stmt t (told_block (after_stmts scope (x ∷ [])) (told_stmt scope found x) body) s) (sym (after_stmts-append scope (x ∷ []) body))
    ∙ ap (λ f. told_stmt (after_stmts scope (x ∷ body)) f s) (sym (told_block-cons scope found x body))

pub told_block-more : (old names : Scope Role) (first found last : Option Refusal) (body : List Stmt) (i : ℕ) (s : Stmt) → i < length body → s ≡ get_or body i s → found ≡ told_block old first (take i body) → names ≡ after_stmts old (take i body) → last ≡ told_stmt names found s → last ≡ told_block old first (take (i + 1) body)
told_block-more old names first found last body i s within here told entered step =
    let more : take (i + 1) body ≡ take i body ++ s ∷ [] = take_more body i s within ∙ ap (λ y. take i body ++ y ∷ []) (sym here) in
    step ∙ ap (λ t. told_stmt t found s) entered ∙ ap (λ f. told_stmt (after_stmts old (take i body)) f s) told
    ∙ sym (told_block-snoc old first (take i body) s) ∙ ap (told_block old first) (sym more)

pub after_stmts-more : (old names last : Scope Role) (body : List Stmt) (i : ℕ) (s : Stmt) → i < length body → s ≡ get_or body i s → names ≡ after_stmts old (take i body) → last ≡ after_stmts names (s ∷ []) → last ≡ after_stmts old (take (i + 1) body)
after_stmts-more old names last body i s within here entered step =
    let more : take (i + 1) body ≡ take i body ++ s ∷ [] = take_more body i s within ∙ ap (λ y. take i body ++ y ∷ []) (sym here) in
    step ∙ ap (λ t. after_stmts t (s ∷ [])) entered ∙ sym (after_stmts-append old (take i body) (s ∷ [])) ∙ ap (after_stmts old) (sym more)

-- what one statement binds
module _ (scope : Scope Role) where
  after_by : (s : Stmt) (l : Line) → line_of s ≡ l → after_stmts scope (s ∷ []) ≡ entered_each Local l.binds scope
  unfolding after_stmts
  after_by s l is = ap (λ ns. entered_each Local ns scope) (append-nil (line_of s).binds) ∙ ap (λ (k : Line). entered_each Local k.binds scope) is

  pub behind-Assign : (name : List ℕ) (x : Expr) (line : ℕ) → after_stmts scope (stmt.Assign name x line ∷ []) ≡ scope
  behind-Assign name x line = after_by (stmt.Assign name x line) _ (at.line_of-Assign name x line)

  pub behind-Add : (name : List ℕ) (x : Expr) (line : ℕ) → after_stmts scope (stmt.Add name x line ∷ []) ≡ scope
  behind-Add name x line = after_by (stmt.Add name x line) _ (at.line_of-Add name x line)

  pub behind-Del : (name : List ℕ) (x : Expr) (line : ℕ) → after_stmts scope (stmt.Del name x line ∷ []) ≡ scope
  behind-Del name x line = after_by (stmt.Del name x line) _ (at.line_of-Del name x line)

  pub behind-Send : (x to : Expr) (line : ℕ) → after_stmts scope (stmt.Send x to line ∷ []) ≡ scope
  behind-Send x to line = after_by (stmt.Send x to line) _ (at.line_of-Send x to line)

  pub behind-Output : (x : Expr) (line : ℕ) → after_stmts scope (stmt.Output x line ∷ []) ≡ scope
  behind-Output x line = after_by (stmt.Output x line) _ (at.line_of-Output x line)

  pub behind-Pass : (line : ℕ) → after_stmts scope (stmt.Pass line ∷ []) ≡ scope
  behind-Pass line = after_by (stmt.Pass line) _ (at.line_of-Pass line)

  pub behind-Label : (name : List ℕ) (line : ℕ) → after_stmts scope (stmt.Label name line ∷ []) ≡ scope
  behind-Label name line = after_by (stmt.Label name line) _ (at.line_of-Label name line)

  pub behind-Call : (name : List ℕ) (xs : List Expr) (line : ℕ) → after_stmts scope (stmt.Call name xs line ∷ []) ≡ scope
  behind-Call name xs line = after_by (stmt.Call name xs line) _ (at.line_of-Call name xs line)

  pub behind-If : (branches : List Branch) (other : Option (List Stmt)) (line : ℕ) → after_stmts scope (stmt.If branches other line ∷ []) ≡ scope
  behind-If branches other line = after_by (stmt.If branches other line) _ (at.line_of-If branches other line)

  pub behind-While : (x : Expr) (body : List Stmt) (line : ℕ) → after_stmts scope (stmt.While x body line ∷ []) ≡ scope
  behind-While x body line = after_by (stmt.While x body line) _ (at.line_of-While x body line)

  pub behind-For : (name : List ℕ) (x : Expr) (body : List Stmt) (line : ℕ) → after_stmts scope (stmt.For name x body line ∷ []) ≡ scope
  behind-For name x body line = after_by (stmt.For name x body line) _ (at.line_of-For name x body line)

  pub behind-AwaitOne : (x : Expr) (line : ℕ) → after_stmts scope (stmt.AwaitOne x line ∷ []) ≡ entered_each Local (found_names x) scope
  behind-AwaitOne x line = after_by (stmt.AwaitOne x line) _ (at.line_of-AwaitOne x line)

  pub behind-Await : (branches : List Branch) (late : Option TimeoutTree) (line : ℕ) → after_stmts scope (stmt.Await branches late line ∷ []) ≡ scope
  behind-Await branches late line = after_by (stmt.Await branches late line) _ (at.line_of-Await branches late line)

pub ruleset stmt_rules = (told_stmt-Assign, told_stmt-Add, told_stmt-Del, told_stmt-Send, told_stmt-Output, told_stmt-Pass, told_stmt-Label, told_stmt-Call, told_stmt-If, told_else-None, told_else-Some, told_stmt-While, told_stmt-For, told_stmt-AwaitOne, told_stmt-Await, behind-Assign, behind-Add, behind-Del, behind-Send, behind-Output, behind-Pass, behind-Label, behind-Call, behind-If, behind-While, behind-For, behind-AwaitOne, behind-Await)

pub left_after_stmts : (scope : Scope Role) (body : List Stmt) → drop (length (after_stmts scope body) - length scope) (after_stmts scope body) ≡ scope
unfolding after_stmts
left_after_stmts scope body = pushed Local (flat_map (λ s. (line_of s).binds) body) scope
