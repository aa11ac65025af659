-- What is written in statements, from what is written in their parts.
use Rattle.std.specs.Prelude.{◌≡◌, refl, ℕ, List, [], ◌∷◌, ◌++◌, map, flat_map, Some, None}
use Rattle.std.proofs.Common.{◌∙◌, ap, append_assoc, append-nil}
use Rattle.std.proofs.lemmas.List.{map-append}
use Rattle.da_lang.specs.declared.tree.Branch.{Branch, out-Branch}
use Rattle.da_lang.specs.declared.tree.Expr.{Expr}
use Rattle.da_lang.specs.declared.tree.Stmt.{Stmt}
use Rattle.da_lang.specs.declared.tree.Stmt.TheVariants as stmt
use Rattle.da_lang.specs.declared.tree.TimeoutTree.{TimeoutTree, out-TimeoutTree}
use Rattle.da_lang.specs.Deeds.{Deed, Other, Awaits, all, deeds_of, deeds_of_branch, deeds_of_timeout}
use Rattle.da_lang.specs.Written.{of, writing}
use Rattle.da_lang.proofs.DeedsAt.{deeds_of-Assign, deeds_of-Add, deeds_of-Del, deeds_of-Send, deeds_of-Output, deeds_of-Pass, deeds_of-Label, deeds_of-Call, deeds_of-If, deeds_of-While, deeds_of-For, deeds_of-AwaitOne, deeds_of-Await, deeds_of_branch-of, deeds_of_timeout-of}
use Rattle.da_limits.specs.declared.sizes.DeedSize.{DeedSize}
use Rattle.da_limits.specs.Sizes.{size_at, deed_size, sizes_of, sizes_of_branch, sizes, sizes_of_branches}
use Rattle.da_limits.specs.Writings.{seen, nothing, beside}
use Rattle.da_limits.proofs.WritingRules.{of-none, of-lone, of-two}

-- the sizes of all deeds of several parts
all-map : {A : Type 0} (f : A → List Deed) (xs : List A) → map deed_size (all (map f xs)) ≡ flat_map (λ x. map deed_size (f x)) xs
all-map f [] = refl
all-map f (x ∷ xs) = map-append deed_size (f x) (all (map f xs)) ∙ ap (λ ds. map deed_size (f x) ++ ds) (all-map f xs)

stmts-map : (xs : List Stmt) → map deed_size (all (map deeds_of xs)) ≡ sizes xs
unfolding sizes sizes_of
stmts-map xs = all-map deeds_of xs

branches-map : (xs : List Branch) → map deed_size (all (map deeds_of_branch xs)) ≡ sizes_of_branches xs
unfolding sizes_of_branches sizes_of_branch
branches-map xs = all-map deeds_of_branch xs

at_none : (line : ℕ) → size_at line (seen (of [])) ≡ size_at line nothing
at_none line = ap (size_at line) of-none

at_one : (line : ℕ) (x : Expr) → size_at line (seen (of (writing x ∷ []))) ≡ size_at line (beside nothing (seen (writing x)))
at_one line x = ap (size_at line) (of-lone (writing x))

abbrev one : DeedSize → List DeedSize
one d = d ∷ []

pub sizes-Assign : (name : List ℕ) (x : Expr) (line : ℕ) → sizes_of (stmt.Assign name x line) ≡ size_at line (beside nothing (seen (writing x))) ∷ []
unfolding sizes_of
sizes-Assign name x line = ap (map deed_size) (deeds_of-Assign name x line) ∙ ap one (at_one line x)

pub sizes-Add : (name : List ℕ) (x : Expr) (line : ℕ) → sizes_of (stmt.Add name x line) ≡ size_at line (beside nothing (seen (writing x))) ∷ []
unfolding sizes_of
sizes-Add name x line = ap (map deed_size) (deeds_of-Add name x line) ∙ ap one (at_one line x)

pub sizes-Del : (name : List ℕ) (x : Expr) (line : ℕ) → sizes_of (stmt.Del name x line) ≡ size_at line (beside nothing (seen (writing x))) ∷ []
unfolding sizes_of
sizes-Del name x line = ap (map deed_size) (deeds_of-Del name x line) ∙ ap one (at_one line x)

pub sizes-Output : (x : Expr) (line : ℕ) → sizes_of (stmt.Output x line) ≡ size_at line (beside nothing (seen (writing x))) ∷ []
unfolding sizes_of
sizes-Output x line = ap (map deed_size) (deeds_of-Output x line) ∙ ap one (at_one line x)

pub sizes-AwaitOne : (x : Expr) (line : ℕ) → sizes_of (stmt.AwaitOne x line) ≡ size_at line (beside nothing (seen (writing x))) ∷ []
unfolding sizes_of
sizes-AwaitOne x line = ap (map deed_size) (deeds_of-AwaitOne x line) ∙ ap one (at_one line x)

pub sizes-Pass : (line : ℕ) → sizes_of (stmt.Pass line) ≡ size_at line nothing ∷ []
unfolding sizes_of
sizes-Pass line = ap (map deed_size) (deeds_of-Pass line) ∙ ap one (at_none line)

pub sizes-Label : (name : List ℕ) (line : ℕ) → sizes_of (stmt.Label name line) ≡ size_at line nothing ∷ []
unfolding sizes_of
sizes-Label name line = ap (map deed_size) (deeds_of-Label name line) ∙ ap one (at_none line)

pub sizes-Send : (x to : Expr) (line : ℕ) → sizes_of (stmt.Send x to line) ≡ size_at line (beside (seen (writing x)) (seen (writing to))) ∷ []
unfolding sizes_of
sizes-Send x to line = ap (map deed_size) (deeds_of-Send x to line) ∙ ap (λ w. one (size_at line w)) (of-two (writing x) (writing to))

pub sizes-Call : (name : List ℕ) (xs : List Expr) (line : ℕ) → sizes_of (stmt.Call name xs line) ≡ size_at line (seen (of (map writing xs))) ∷ []
unfolding sizes_of
sizes-Call name xs line = ap (map deed_size) (deeds_of-Call name xs line)

pub sizes-If-None : (branches : List Branch) (line : ℕ) → sizes_of (stmt.If branches None line) ≡ size_at line nothing ∷ sizes_of_branches branches
unfolding sizes_of
sizes-If-None branches line =
    ap (map deed_size) (deeds_of-If branches None line) ∙ map-append deed_size (record { line = line; does = Other; says = [] } ∷ all (map deeds_of_branch branches)) [] ∙ append-nil _
    ∙ ap (λ d. d ∷ map deed_size (all (map deeds_of_branch branches))) (at_none line) ∙ ap (λ ds. size_at line nothing ∷ ds) (branches-map branches)

pub sizes-If-Some : (branches : List Branch) (other : List Stmt) (line : ℕ) → sizes_of (stmt.If branches (Some other) line) ≡ size_at line nothing ∷ (sizes_of_branches branches ++ sizes other)
unfolding sizes_of
sizes-If-Some branches other line =
    ap (map deed_size) (deeds_of-If branches (Some other) line) ∙ map-append deed_size (record { line = line; does = Other; says = [] } ∷ all (map deeds_of_branch branches)) (all (map deeds_of other))
    ∙ ap (λ d. d ∷ (map deed_size (all (map deeds_of_branch branches)) ++ map deed_size (all (map deeds_of other)))) (at_none line)
    ∙ ap (λ ds. size_at line nothing ∷ (ds ++ map deed_size (all (map deeds_of other)))) (branches-map branches) ∙ ap (λ ds. size_at line nothing ∷ (sizes_of_branches branches ++ ds)) (stmts-map other)

pub sizes-While : (x : Expr) (body : List Stmt) (line : ℕ) → sizes_of (stmt.While x body line) ≡ size_at line (beside nothing (seen (writing x))) ∷ sizes body
unfolding sizes_of
sizes-While x body line = ap (map deed_size) (deeds_of-While x body line) ∙ ap (λ d. d ∷ map deed_size (all (map deeds_of body))) (at_one line x) ∙ ap (λ ds. size_at line (beside nothing (seen (writing x))) ∷ ds) (stmts-map body)

pub sizes-For : (name : List ℕ) (x : Expr) (body : List Stmt) (line : ℕ) → sizes_of (stmt.For name x body line) ≡ size_at line (beside nothing (seen (writing x))) ∷ sizes body
unfolding sizes_of
sizes-For name x body line = ap (map deed_size) (deeds_of-For name x body line) ∙ ap (λ d. d ∷ map deed_size (all (map deeds_of body))) (at_one line x) ∙ ap (λ ds. size_at line (beside nothing (seen (writing x))) ∷ ds) (stmts-map body)

timed_of : (t : TimeoutTree) → map deed_size (deeds_of_timeout t) ≡ size_at (out-TimeoutTree t).line nothing ∷ sizes (out-TimeoutTree t).body
timed_of t =
    let v = out-TimeoutTree t in
    ap (map deed_size) (deeds_of_timeout-of v.body v.line) ∙ ap (λ d. d ∷ map deed_size (all (map deeds_of v.body))) (at_none v.line) ∙ ap (λ ds. size_at v.line nothing ∷ ds) (stmts-map v.body)

pub sizes-Await-None : (alts : List Branch) (line : ℕ) → sizes_of (stmt.Await alts None line) ≡ size_at line nothing ∷ sizes_of_branches alts
unfolding sizes_of
sizes-Await-None alts line =
    ap (map deed_size) (deeds_of-Await alts None line) ∙ map-append deed_size (record { line = line; does = Awaits; says = [] } ∷ all (map deeds_of_branch alts)) [] ∙ append-nil _
    ∙ ap (λ d. d ∷ map deed_size (all (map deeds_of_branch alts))) (at_none line) ∙ ap (λ ds. size_at line nothing ∷ ds) (branches-map alts)

pub sizes-Await-Some : (alts : List Branch) (t : TimeoutTree) (line : ℕ)
    → sizes_of (stmt.Await alts (Some t) line) ≡ size_at line nothing ∷ (sizes_of_branches alts ++ size_at (out-TimeoutTree t).line nothing ∷ sizes (out-TimeoutTree t).body)
unfolding sizes_of
sizes-Await-Some alts t line =
    let late = deeds_of_timeout t ++ [] in
    let timed : map deed_size late ≡ size_at (out-TimeoutTree t).line nothing ∷ sizes (out-TimeoutTree t).body = ap (map deed_size) (append-nil (deeds_of_timeout t)) ∙ timed_of t in
    ap (map deed_size) (deeds_of-Await alts (Some t) line) ∙ map-append deed_size (record { line = line; does = Awaits; says = [] } ∷ all (map deeds_of_branch alts)) late
    ∙ ap (λ d. d ∷ (map deed_size (all (map deeds_of_branch alts)) ++ map deed_size late)) (at_none line)
    ∙ ap (λ ds. size_at line nothing ∷ (ds ++ map deed_size late)) (branches-map alts) ∙ ap (λ ds. size_at line nothing ∷ (sizes_of_branches alts ++ ds)) timed

pub ruleset stmt_rules = (append_assoc, append-nil, sizes-Assign, sizes-Add, sizes-Del, sizes-Send, sizes-Output, sizes-Pass, sizes-Label, sizes-Call, sizes-If-None, sizes-If-Some, sizes-While, sizes-For, sizes-AwaitOne, sizes-Await-None, sizes-Await-Some)

pub branch-of : (b : Branch) → sizes_of_branch b ≡ size_at (out-Branch b).line (beside nothing (seen (writing (out-Branch b).cond))) ∷ sizes (out-Branch b).body
unfolding sizes_of_branch
branch-of b =
    let v = out-Branch b in
    ap (map deed_size) (deeds_of_branch-of v.cond v.body v.line) ∙ ap (λ d. d ∷ map deed_size (all (map deeds_of v.body))) (at_one v.line v.cond)
    ∙ ap (λ ds. size_at v.line (beside nothing (seen (writing v.cond))) ∷ ds) (stmts-map v.body)

pub ruleset branch_rules = (append_assoc, branch-of)

pub ruleset list_rules = (append_assoc, append-nil)
