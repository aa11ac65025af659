-- The names of labels among statements, from those of their parts.
use Rattle.std.specs.Prelude.{◌≡◌, refl, ℕ, List, [], ◌∷◌, ◌++◌, map, flat_map, filter_map, Option, Some, None}
use Rattle.std.specs.List.{cons_option}
use Rattle.std.proofs.Common.{◌∙◌, ap, sym, append_assoc, append-nil}
use Rattle.std.proofs.lemmas.List.{map-append}
use Rattle.std.proofs.lemmas.List.Elements.{filter_map-append}
use Rattle.da_lang.specs.declared.tree.Branch.{Branch, out-Branch}
use Rattle.da_lang.specs.declared.tree.ClassTree.{ClassTree}
use Rattle.da_lang.specs.declared.tree.Expr.{Expr}
use Rattle.da_lang.specs.declared.tree.Member.{Member}
use Rattle.da_lang.specs.declared.tree.Stmt.{Stmt}
use Rattle.da_lang.specs.declared.tree.Stmt.TheVariants as stmt
use Rattle.da_lang.specs.declared.tree.TimeoutTree.{TimeoutTree, out-TimeoutTree}
use Rattle.da_lang.specs.ClassParts.{Body, Declared, body_in, stmts_if}
use Rattle.da_lang.specs.Deeds.{Deed, all, deeds, deeds_of, deeds_of_branch, deeds_of_timeout}
use Rattle.da_lang.specs.LabelNames.{labelled, labels_of}
use Rattle.da_lang.proofs.DeedsAt.{deeds_of-Assign, deeds_of-Add, deeds_of-Del, deeds_of-Send, deeds_of-Output, deeds_of-Pass, deeds_of-Label, deeds_of-Call, deeds_of-If, deeds_of-While, deeds_of-For, deeds_of-AwaitOne, deeds_of-Await, deeds_of_branch-of, deeds_of_timeout-of}
use Rattle.da_scope.specs.LabelsView.{label_names, names_of, names_of_branch, names_in, names_of_branches, names_of_member, names_within}
use Rattle.da_scope.proofs.FoundAt.{texts_push}

names-append : (xs ys : List Deed) → label_names (xs ++ ys) ≡ label_names xs ++ label_names ys
names-append xs ys =
    let found = λ (d : Deed). labelled d.line d.does in
    ap (map (λ (l : Declared). l.0)) (filter_map-append found xs ys) ∙ map-append (λ (l : Declared). l.0) (filter_map found xs) (filter_map found ys)

-- the labels of several parts
all-names : {A : Type 0} (f : A → List Deed) (xs : List A) → label_names (all (map f xs)) ≡ flat_map (λ x. label_names (f x)) xs
all-names f [] = refl
all-names f (x ∷ xs) = names-append (f x) (all (map f xs)) ∙ ap (λ ns. label_names (f x) ++ ns) (all-names f xs)

stmts-names : (xs : List Stmt) → label_names (all (map deeds_of xs)) ≡ names_in xs
unfolding names_in names_of
stmts-names xs = all-names deeds_of xs

branches-names : (xs : List Branch) → label_names (all (map deeds_of_branch xs)) ≡ names_of_branches xs
unfolding names_of_branches names_of_branch
branches-names xs = all-names deeds_of_branch xs

late-names : (t : TimeoutTree) → label_names (deeds_of_timeout t) ≡ names_in (out-TimeoutTree t).body
late-names t = let v = out-TimeoutTree t in ap label_names (deeds_of_timeout-of v.body v.line) ∙ stmts-names v.body

pub names-Assign : (name : List ℕ) (x : Expr) (line : ℕ) → names_of (stmt.Assign name x line) ≡ []
unfolding names_of
names-Assign name x line = ap label_names (deeds_of-Assign name x line)

pub names-Add : (name : List ℕ) (x : Expr) (line : ℕ) → names_of (stmt.Add name x line) ≡ []
unfolding names_of
names-Add name x line = ap label_names (deeds_of-Add name x line)

pub names-Del : (name : List ℕ) (x : Expr) (line : ℕ) → names_of (stmt.Del name x line) ≡ []
unfolding names_of
names-Del name x line = ap label_names (deeds_of-Del name x line)

pub names-Send : (x to : Expr) (line : ℕ) → names_of (stmt.Send x to line) ≡ []
unfolding names_of
names-Send x to line = ap label_names (deeds_of-Send x to line)

pub names-Output : (x : Expr) (line : ℕ) → names_of (stmt.Output x line) ≡ []
unfolding names_of
names-Output x line = ap label_names (deeds_of-Output x line)

pub names-Pass : (line : ℕ) → names_of (stmt.Pass line) ≡ []
unfolding names_of
names-Pass line = ap label_names (deeds_of-Pass line)

pub names-Label : (name : List ℕ) (line : ℕ) → names_of (stmt.Label name line) ≡ name ∷ []
unfolding names_of
names-Label name line = ap label_names (deeds_of-Label name line)

pub names-Call : (name : List ℕ) (xs : List Expr) (line : ℕ) → names_of (stmt.Call name xs line) ≡ []
unfolding names_of
names-Call name xs line = ap label_names (deeds_of-Call name xs line)

pub names-AwaitOne : (x : Expr) (line : ℕ) → names_of (stmt.AwaitOne x line) ≡ []
unfolding names_of
names-AwaitOne x line = ap label_names (deeds_of-AwaitOne x line)

pub names-If-None : (branches : List Branch) (line : ℕ) → names_of (stmt.If branches None line) ≡ names_of_branches branches
unfolding names_of
names-If-None branches line =
    let front = all (map deeds_of_branch branches) in
    ap label_names (deeds_of-If branches None line) ∙ ap label_names (append-nil front) ∙ branches-names branches

pub names-If-Some : (branches : List Branch) (other : List Stmt) (line : ℕ) → names_of (stmt.If branches (Some other) line) ≡ names_of_branches branches ++ names_in other
unfolding names_of
names-If-Some branches other line =
    let front = all (map deeds_of_branch branches) in
    let back = all (map deeds_of other) in
    ap label_names (deeds_of-If branches (Some other) line) ∙ names-append front back
    ∙ ap (λ ns. ns ++ label_names back) (branches-names branches) ∙ ap (λ ns. names_of_branches branches ++ ns) (stmts-names other)

pub names-While : (x : Expr) (body : List Stmt) (line : ℕ) → names_of (stmt.While x body line) ≡ names_in body
unfolding names_of
names-While x body line = ap label_names (deeds_of-While x body line) ∙ stmts-names body

pub names-For : (name : List ℕ) (x : Expr) (body : List Stmt) (line : ℕ) → names_of (stmt.For name x body line) ≡ names_in body
unfolding names_of
names-For name x body line = ap label_names (deeds_of-For name x body line) ∙ stmts-names body

pub names-Await-None : (alts : List Branch) (line : ℕ) → names_of (stmt.Await alts None line) ≡ names_of_branches alts
unfolding names_of
names-Await-None alts line =
    let front = all (map deeds_of_branch alts) in
    ap label_names (deeds_of-Await alts None line) ∙ ap label_names (append-nil front) ∙ branches-names alts

pub names-Await-Some : (alts : List Branch) (t : TimeoutTree) (line : ℕ) → names_of (stmt.Await alts (Some t) line) ≡ names_of_branches alts ++ names_in (out-TimeoutTree t).body
unfolding names_of
names-Await-Some alts t line =
    let front = all (map deeds_of_branch alts) in
    let back = deeds_of_timeout t ++ [] in
    ap label_names (deeds_of-Await alts (Some t) line) ∙ names-append front back
    ∙ ap (λ ns. ns ++ label_names back) (branches-names alts) ∙ ap (λ ns. names_of_branches alts ++ ns) (ap label_names (append-nil (deeds_of_timeout t)) ∙ late-names t)

pub ruleset stmt_rules = (append_assoc, append-nil, texts_push, names-Assign, names-Add, names-Del, names-Send, names-Output, names-Pass, names-Label, names-Call, names-AwaitOne, names-If-None, names-If-Some, names-While, names-For, names-Await-None, names-Await-Some)

pub branch-of : (b : Branch) → names_of_branch b ≡ names_in (out-Branch b).body
unfolding names_of_branch
branch-of b = let v = out-Branch b in ap label_names (deeds_of_branch-of v.cond v.body v.line) ∙ stmts-names v.body

pub ruleset branch_rules = (branch-of)

pub ruleset list_rules = (append_assoc, append-nil)

-- the bodies of a class
body-names : (ss : List Stmt) → label_names (deeds ss) ≡ names_in ss
unfolding names_in names_of
body-names [] = refl
body-names (s ∷ ss) = names-append (deeds_of s) (deeds ss) ∙ ap (λ ns. label_names (deeds_of s) ++ ns) (body-names ss)

abbrev body_deeds : Body → List Deed
body_deeds b = deeds b.stmts

bodies-names : (bs : List Body) → label_names (flat_map body_deeds bs) ≡ flat_map (λ (b : Body). names_in b.stmts) bs
bodies-names [] = refl
bodies-names (b ∷ bs) =
    names-append (body_deeds b) (flat_map body_deeds bs) ∙ ap (λ ns. ns ++ label_names (flat_map body_deeds bs)) (body-names b.stmts) ∙ ap (λ ns. names_in b.stmts ++ ns) (bodies-names bs)

empty-names : names_in [] ≡ []
unfolding names_in
empty-names = refl

member_by : (found : Option Body) (bodies : List Body) (others : List (List ℕ)) → flat_map (λ (b : Body). names_in b.stmts) bodies ≡ others
    → flat_map (λ (b : Body). names_in b.stmts) (cons_option found bodies) ≡ names_in (stmts_if found) ++ others
member_by None bodies others same = same ∙ ap (λ ns. ns ++ others) (sym empty-names)
member_by (Some b) bodies others same = ap (λ ns. names_in b.stmts ++ ns) same

members-names : (ms : List Member) → flat_map (λ (b : Body). names_in b.stmts) (filter_map body_in ms) ≡ flat_map names_of_member ms
unfolding names_of_member
members-names [] = refl
members-names (m ∷ ms) = member_by (body_in m) (filter_map body_in ms) (flat_map names_of_member ms) (members-names ms)

pub class-names : (c : ClassTree) → names_within c.members ≡ map (λ (l : Declared). l.0) (labels_of c)
unfolding names_within
class-names c = sym (bodies-names (filter_map body_in c.members) ∙ members-names c.members)
