-- The statements of a body one by one, in the shape in which code appends them.
use Rattle.std.specs.Prelude.{◌≡◌, refl, ℕ, List, [], ◌∷◌, ◌++◌, map, flat_map, Option, Some, None, option_map, option_to_list}
use Rattle.std.proofs.Common.{◌∙◌, sym, ap, append_assoc}
use Rattle.std.proofs.lemmas.List.{append-nil, map-append}
use Rattle.da_lang.specs.declared.tree.Branch.{Branch, out-Branch, roll-out-Branch}
use Rattle.da_lang.specs.declared.tree.Expr.{Expr}
use Rattle.da_lang.specs.declared.tree.Stmt.{Stmt}
use Rattle.da_lang.specs.declared.tree.Stmt.TheVariants as stmt
use Rattle.da_lang.specs.declared.tree.TimeoutTree.{TimeoutTree, out-TimeoutTree, roll-out-TimeoutTree}
use Rattle.da_lang.specs.Deeds.{Deed, deed, deeds, deeds_of, deeds_of_branch, deeds_of_timeout, all, all_if, Loops, Awaits, TimesOut, Other}
use Rattle.da_lang.proofs.DeedsAt as at
use Rattle.da_names.specs.DeedView.{deed_of, deeds_in}
use Rattle.da_names.specs.declared.deeds.Deed as code

pub deeds_in-nil : deeds_in [] ≡ []
unfolding deeds_in
deeds_in-nil = refl

pub deeds_in-push : (ds : List code.Deed) (d : code.Deed) → deeds_in (ds ++ d ∷ []) ≡ deeds_in ds ++ deed_of d ∷ []
unfolding deeds_in
deeds_in-push ds d = map-append deed_of ds (d ∷ [])

all-map : {A : Type 0} (f : A → List Deed) (xs : List A) → all (map f xs) ≡ flat_map f xs
all-map f [] = refl
all-map f (x ∷ xs) = ap (λ ds. f x ++ ds) (all-map f xs)

-- the block of `else`
unfoldable pub else_deeds : Option (List Stmt) → List Deed
else_deeds None = []
else_deeds (Some body) = deeds body

pub else-None : else_deeds None ≡ []
unfolding else_deeds
else-None = refl

pub else-Some : (body : List Stmt) → else_deeds (Some body) ≡ deeds body
unfolding else_deeds
else-Some body = refl

else_all : (other : Option (List Stmt)) → all_if (option_map (map deeds_of) other) ≡ else_deeds other
unfolding else_deeds
else_all None = refl
else_all (Some body) = all-map deeds_of body

late_all : (late : Option TimeoutTree) → all (option_to_list (option_map deeds_of_timeout late)) ≡ flat_map deeds_of_timeout (option_to_list late)
late_all None = refl
late_all (Some t) = refl

pub deeds-If : (branches : List Branch) (other : Option (List Stmt)) (line : ℕ) → deeds_of (stmt.If branches other line) ≡ (deed line Other [] ∷ []) ++ flat_map deeds_of_branch branches ++ else_deeds other
deeds-If branches other line =
    at.deeds_of-If branches other line
    ∙ ap (λ ds. deed line Other [] ∷ ds ++ all_if (option_map (map deeds_of) other)) (all-map deeds_of_branch branches)
    ∙ ap (λ ds. deed line Other [] ∷ flat_map deeds_of_branch branches ++ ds) (else_all other)

pub deeds-While : (x : Expr) (body : List Stmt) (line : ℕ) → deeds_of (stmt.While x body line) ≡ (deed line Loops (x ∷ []) ∷ []) ++ deeds body
deeds-While x body line = at.deeds_of-While x body line ∙ ap (λ ds. deed line Loops (x ∷ []) ∷ ds) (all-map deeds_of body)

pub deeds-For : (name : List ℕ) (x : Expr) (body : List Stmt) (line : ℕ) → deeds_of (stmt.For name x body line) ≡ (deed line Loops (x ∷ []) ∷ []) ++ deeds body
deeds-For name x body line = at.deeds_of-For name x body line ∙ ap (λ ds. deed line Loops (x ∷ []) ∷ ds) (all-map deeds_of body)

pub deeds-Await : (alts : List Branch) (late : Option TimeoutTree) (line : ℕ) → deeds_of (stmt.Await alts late line) ≡ (deed line Awaits [] ∷ []) ++ flat_map deeds_of_branch alts ++ flat_map deeds_of_timeout (option_to_list late)
deeds-Await alts late line =
    at.deeds_of-Await alts late line
    ∙ ap (λ ds. deed line Awaits [] ∷ ds ++ all (option_to_list (option_map deeds_of_timeout late))) (all-map deeds_of_branch alts)
    ∙ ap (λ ds. deed line Awaits [] ∷ flat_map deeds_of_branch alts ++ ds) (late_all late)

pub branch_deeds_of : (b : Branch) → deeds_of_branch b ≡ (deed (out-Branch b).line Other ((out-Branch b).cond ∷ []) ∷ []) ++ deeds (out-Branch b).body
branch_deeds_of b =
    let v = out-Branch b in
    ap deeds_of_branch (sym (roll-out-Branch b)) ∙ at.deeds_of_branch-of v.cond v.body v.line ∙ ap (λ ds. deed v.line Other (v.cond ∷ []) ∷ ds) (all-map deeds_of v.body)

pub timeout_deeds_of : (t : TimeoutTree) → deeds_of_timeout t ≡ (deed (out-TimeoutTree t).line TimesOut [] ∷ []) ++ deeds (out-TimeoutTree t).body
timeout_deeds_of t =
    let v = out-TimeoutTree t in
    ap deeds_of_timeout (sym (roll-out-TimeoutTree t)) ∙ at.deeds_of_timeout-of v.body v.line ∙ ap (λ ds. deed v.line TimesOut [] ∷ ds) (all-map deeds_of v.body)

pub ruleset deed_rules = (append_assoc, append-nil, at.deeds_of-Assign, at.deeds_of-Add, at.deeds_of-Del, at.deeds_of-Send, at.deeds_of-Output, at.deeds_of-Pass, at.deeds_of-Label, at.deeds_of-Call, deeds-If, else-None, else-Some, deeds-While, deeds-For, at.deeds_of-AwaitOne, deeds-Await)
