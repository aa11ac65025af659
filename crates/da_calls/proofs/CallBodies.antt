-- The calls and the yield points of each form of statement.
use Rattle.std.proofs.Common.{◌≡◌, ◌∙◌, ℕ, ◌+◌, ◌<◌, Bool, true, false, ◌||◌, List, [], ◌∷◌, ◌++◌, length, map, take, flat_map, filter_map, get_or, Option, Some, None, zero, suc, subst, sym, refl, ap, append_assoc, arith}
use Rattle.std.specs.Option.{option_to_list}
use Rattle.std.specs.List.{cons_option, list_any}
use Rattle.std.proofs.lemmas.List.{append-nil, take_more}
use Rattle.std.proofs.lemmas.List.Concat.{flat_map-append}
use Rattle.std.proofs.lemmas.List.Elements.{filter_map-append}
use Rattle.std.proofs.lemmas.List.Folds.{list_any-append}
use Rattle.da_lang.specs.declared.tree.Branch.{Branch, out-Branch, roll-out-Branch}
use Rattle.da_lang.specs.declared.tree.Expr.{Expr}
use Rattle.da_lang.specs.declared.tree.Stmt.{Stmt}
use Rattle.da_lang.specs.declared.tree.Stmt.TheVariants as stmt
use Rattle.da_lang.specs.declared.tree.TimeoutTree.{TimeoutTree, out-TimeoutTree, roll-out-TimeoutTree}
use Rattle.da_lang.specs.Calls.{called, is_yield}
use Rattle.da_lang.specs.Deeds.{Deed, deed, deeds_of, deeds_of_branch, deeds_of_timeout, Other, Awaits, Loops, TimesOut}
use Rattle.da_lang.proofs.DeedsAt as at
use Rattle.da_calls.specs.CallBodies.{calls_by, some_yield}

-- parts one after another
pub calls_by-append : (number : List ℕ → Option ℕ) (ds es : List Deed) → calls_by number (ds ++ es) ≡ calls_by number ds ++ calls_by number es
unfolding calls_by
calls_by-append number ds es = simp filter_map-append

pub some_yield-append : (ds es : List Deed) → some_yield (ds ++ es) ≡ (some_yield ds || some_yield es)
unfolding some_yield
some_yield-append ds es = simp list_any-append

pub calls_by-none : (number : List ℕ → Option ℕ) → calls_by number [] ≡ []
unfolding calls_by
calls_by-none number = refl

pub some_yield-none : some_yield [] ≡ false
unfolding some_yield
some_yield-none = refl

-- after a deed that calls nothing, that is no yield point
calls_after : (number : List ℕ → Option ℕ) (d : Deed) (ds : List Deed) → called d.does ≡ None → calls_by number (d ∷ ds) ≡ calls_by number ds
unfolding calls_by
calls_after number d ds none = ap (λ o. filter_map number (cons_option o (filter_map (λ e. called e.does) ds))) none

yields_after : (d : Deed) (ds : List Deed) → is_yield d.does ≡ false → some_yield (d ∷ ds) ≡ some_yield ds
unfolding some_yield
yields_after d ds none = ap (λ b. b || list_any (λ e. is_yield e.does) ds) none

-- the deeds of a whole block
map_all : {A : Type 0} (f : A → List Deed) (xs : List A) → flat_map (λ ds. ds) (map f xs) ≡ flat_map f xs
map_all f [] = refl
map_all f (x ∷ xs) = ap (λ ds. f x ++ ds) (map_all f xs)

pub calls-Assign : (number : List ℕ → Option ℕ) (name : List ℕ) (x : Expr) (line : ℕ) → calls_by number (deeds_of (stmt.Assign name x line)) ≡ []
unfolding calls_by
calls-Assign number name x line = ap (calls_by number) (at.deeds_of-Assign name x line)

pub calls-Add : (number : List ℕ → Option ℕ) (name : List ℕ) (x : Expr) (line : ℕ) → calls_by number (deeds_of (stmt.Add name x line)) ≡ []
unfolding calls_by
calls-Add number name x line = ap (calls_by number) (at.deeds_of-Add name x line)

pub calls-Del : (number : List ℕ → Option ℕ) (name : List ℕ) (x : Expr) (line : ℕ) → calls_by number (deeds_of (stmt.Del name x line)) ≡ []
unfolding calls_by
calls-Del number name x line = ap (calls_by number) (at.deeds_of-Del name x line)

pub calls-Send : (number : List ℕ → Option ℕ) (x to : Expr) (line : ℕ) → calls_by number (deeds_of (stmt.Send x to line)) ≡ []
unfolding calls_by
calls-Send number x to line = ap (calls_by number) (at.deeds_of-Send x to line)

pub calls-Output : (number : List ℕ → Option ℕ) (x : Expr) (line : ℕ) → calls_by number (deeds_of (stmt.Output x line)) ≡ []
unfolding calls_by
calls-Output number x line = ap (calls_by number) (at.deeds_of-Output x line)

pub calls-Pass : (number : List ℕ → Option ℕ) (line : ℕ) → calls_by number (deeds_of (stmt.Pass line)) ≡ []
unfolding calls_by
calls-Pass number line = ap (calls_by number) (at.deeds_of-Pass line)

pub calls-Label : (number : List ℕ → Option ℕ) (name : List ℕ) (line : ℕ) → calls_by number (deeds_of (stmt.Label name line)) ≡ []
unfolding calls_by
calls-Label number name line = ap (calls_by number) (at.deeds_of-Label name line)

pub calls-AwaitOne : (number : List ℕ → Option ℕ) (x : Expr) (line : ℕ) → calls_by number (deeds_of (stmt.AwaitOne x line)) ≡ []
unfolding calls_by
calls-AwaitOne number x line = ap (calls_by number) (at.deeds_of-AwaitOne x line)

pub calls-Call : (number : List ℕ → Option ℕ) (name : List ℕ) (xs : List Expr) (line : ℕ) → calls_by number (deeds_of (stmt.Call name xs line)) ≡ option_to_list (number name)
unfolding calls_by
calls-Call number name xs line = ap (calls_by number) (at.deeds_of-Call name xs line) ∙ only (number name)
  where
    only : (o : Option ℕ) → cons_option o [] ≡ option_to_list o
    only None = refl
    only (Some n) = refl

pub calls-While : (number : List ℕ → Option ℕ) (x : Expr) (body : List Stmt) (line : ℕ) → calls_by number (deeds_of (stmt.While x body line)) ≡ calls_by number (flat_map deeds_of body)
unfolding calls_by
calls-While number x body line = ap (calls_by number) (at.deeds_of-While x body line) ∙ ap (λ ds. calls_by number (deed line Loops (x ∷ []) ∷ ds)) (map_all deeds_of body)

pub calls-For : (number : List ℕ → Option ℕ) (name : List ℕ) (x : Expr) (body : List Stmt) (line : ℕ) → calls_by number (deeds_of (stmt.For name x body line)) ≡ calls_by number (flat_map deeds_of body)
unfolding calls_by
calls-For number name x body line = ap (calls_by number) (at.deeds_of-For name x body line) ∙ ap (λ ds. calls_by number (deed line Loops (x ∷ []) ∷ ds)) (map_all deeds_of body)

abbrev pub else_deeds : Option (List Stmt) → List Deed
else_deeds None = []
else_deeds (Some body) = flat_map deeds_of body

abbrev pub late_deeds : Option TimeoutTree → List Deed
late_deeds None = []
late_deeds (Some tree) = deeds_of_timeout tree

-- the deeds of the branches, and of what stands after them
pub if_deeds : (branches : List Branch) (other : Option (List Stmt)) (line : ℕ) → deeds_of (stmt.If branches other line) ≡ deed line Other [] ∷ flat_map deeds_of_branch branches ++ else_deeds other
if_deeds branches None line = at.deeds_of-If branches None line ∙ ap (λ ds. deed line Other [] ∷ ds ++ []) (map_all deeds_of_branch branches)
if_deeds branches (Some body) line =
    at.deeds_of-If branches (Some body) line ∙ ap (λ ds. deed line Other [] ∷ ds ++ flat_map (λ es. es) (map deeds_of body)) (map_all deeds_of_branch branches)
    ∙ ap (λ ds. deed line Other [] ∷ flat_map deeds_of_branch branches ++ ds) (map_all deeds_of body)

pub timeout_deeds_are : (tree : TimeoutTree) → deeds_of_timeout tree ≡ deed (out-TimeoutTree tree).line TimesOut [] ∷ flat_map deeds_of (out-TimeoutTree tree).body
timeout_deeds_are tree =
    let v = out-TimeoutTree tree in
    ap deeds_of_timeout (sym (roll-out-TimeoutTree tree)) ∙ at.deeds_of_timeout-of v.body v.line ∙ ap (λ ds. deed v.line TimesOut [] ∷ ds) (map_all deeds_of v.body)

pub branch_deeds_are : (branch : Branch) → deeds_of_branch branch ≡ deed (out-Branch branch).line Other ((out-Branch branch).cond ∷ []) ∷ flat_map deeds_of (out-Branch branch).body
branch_deeds_are branch =
    let v = out-Branch branch in
    ap deeds_of_branch (sym (roll-out-Branch branch)) ∙ at.deeds_of_branch-of v.cond v.body v.line ∙ ap (λ ds. deed v.line Other (v.cond ∷ []) ∷ ds) (map_all deeds_of v.body)

pub await_deeds : (alts : List Branch) (timeout : Option TimeoutTree) (line : ℕ) → deeds_of (stmt.Await alts timeout line) ≡ deed line Awaits [] ∷ flat_map deeds_of_branch alts ++ late_deeds timeout
await_deeds alts None line = at.deeds_of-Await alts None line ∙ ap (λ ds. deed line Awaits [] ∷ ds ++ []) (map_all deeds_of_branch alts)
await_deeds alts (Some tree) line =
    at.deeds_of-Await alts (Some tree) line ∙ ap (λ ds. deed line Awaits [] ∷ ds ++ (deeds_of_timeout tree ++ [])) (map_all deeds_of_branch alts)
    ∙ ap (λ ds. deed line Awaits [] ∷ flat_map deeds_of_branch alts ++ ds) (append-nil (deeds_of_timeout tree))

pub calls-branch : (number : List ℕ → Option ℕ) (branch : Branch) → calls_by number (deeds_of_branch branch) ≡ calls_by number (flat_map deeds_of (out-Branch branch).body)
unfolding calls_by
calls-branch number branch = ap (calls_by number) (branch_deeds_are branch)

pub calls-timeout : (number : List ℕ → Option ℕ) (tree : TimeoutTree) → calls_by number (deeds_of_timeout tree) ≡ calls_by number (flat_map deeds_of (out-TimeoutTree tree).body)
unfolding calls_by
calls-timeout number tree = ap (calls_by number) (timeout_deeds_are tree)

pub calls-If : (number : List ℕ → Option ℕ) (branches : List Branch) (other : Option (List Stmt)) (line : ℕ) → calls_by number (deeds_of (stmt.If branches other line)) ≡ calls_by number (flat_map deeds_of_branch branches) ++ calls_by number (else_deeds other)
calls-If number branches other line =
    ap (calls_by number) (if_deeds branches other line) ∙ calls_after number (deed line Other []) (flat_map deeds_of_branch branches ++ else_deeds other) refl ∙ calls_by-append number (flat_map deeds_of_branch branches) (else_deeds other)

pub calls-Await : (number : List ℕ → Option ℕ) (alts : List Branch) (timeout : Option TimeoutTree) (line : ℕ) → calls_by number (deeds_of (stmt.Await alts timeout line)) ≡ calls_by number (flat_map deeds_of_branch alts) ++ calls_by number (late_deeds timeout)
calls-Await number alts timeout line =
    ap (calls_by number) (await_deeds alts timeout line) ∙ calls_after number (deed line Awaits []) (flat_map deeds_of_branch alts ++ late_deeds timeout) refl ∙ calls_by-append number (flat_map deeds_of_branch alts) (late_deeds timeout)

pub yields-Assign : (name : List ℕ) (x : Expr) (line : ℕ) → some_yield (deeds_of (stmt.Assign name x line)) ≡ false
unfolding some_yield
yields-Assign name x line = ap some_yield (at.deeds_of-Assign name x line)

pub yields-Add : (name : List ℕ) (x : Expr) (line : ℕ) → some_yield (deeds_of (stmt.Add name x line)) ≡ false
unfolding some_yield
yields-Add name x line = ap some_yield (at.deeds_of-Add name x line)

pub yields-Del : (name : List ℕ) (x : Expr) (line : ℕ) → some_yield (deeds_of (stmt.Del name x line)) ≡ false
unfolding some_yield
yields-Del name x line = ap some_yield (at.deeds_of-Del name x line)

pub yields-Send : (x to : Expr) (line : ℕ) → some_yield (deeds_of (stmt.Send x to line)) ≡ false
unfolding some_yield
yields-Send x to line = ap some_yield (at.deeds_of-Send x to line)

pub yields-Output : (x : Expr) (line : ℕ) → some_yield (deeds_of (stmt.Output x line)) ≡ false
unfolding some_yield
yields-Output x line = ap some_yield (at.deeds_of-Output x line)

pub yields-Pass : (line : ℕ) → some_yield (deeds_of (stmt.Pass line)) ≡ false
unfolding some_yield
yields-Pass line = ap some_yield (at.deeds_of-Pass line)

pub yields-Call : (name : List ℕ) (xs : List Expr) (line : ℕ) → some_yield (deeds_of (stmt.Call name xs line)) ≡ false
unfolding some_yield
yields-Call name xs line = ap some_yield (at.deeds_of-Call name xs line)

pub yields-Label : (name : List ℕ) (line : ℕ) → some_yield (deeds_of (stmt.Label name line)) ≡ true
unfolding some_yield
yields-Label name line = ap some_yield (at.deeds_of-Label name line)

pub yields-AwaitOne : (x : Expr) (line : ℕ) → some_yield (deeds_of (stmt.AwaitOne x line)) ≡ true
unfolding some_yield
yields-AwaitOne x line = ap some_yield (at.deeds_of-AwaitOne x line)

pub yields-Await : (alts : List Branch) (timeout : Option TimeoutTree) (line : ℕ) → some_yield (deeds_of (stmt.Await alts timeout line)) ≡ true
unfolding some_yield
yields-Await alts timeout line = ap some_yield (await_deeds alts timeout line)

pub yields-While : (x : Expr) (body : List Stmt) (line : ℕ) → some_yield (deeds_of (stmt.While x body line)) ≡ some_yield (flat_map deeds_of body)
unfolding some_yield
yields-While x body line = ap some_yield (at.deeds_of-While x body line) ∙ ap (λ ds. some_yield (deed line Loops (x ∷ []) ∷ ds)) (map_all deeds_of body)

pub yields-For : (name : List ℕ) (x : Expr) (body : List Stmt) (line : ℕ) → some_yield (deeds_of (stmt.For name x body line)) ≡ some_yield (flat_map deeds_of body)
unfolding some_yield
yields-For name x body line = ap some_yield (at.deeds_of-For name x body line) ∙ ap (λ ds. some_yield (deed line Loops (x ∷ []) ∷ ds)) (map_all deeds_of body)

pub yields-branch : (branch : Branch) → some_yield (deeds_of_branch branch) ≡ some_yield (flat_map deeds_of (out-Branch branch).body)
unfolding some_yield
yields-branch branch = ap some_yield (branch_deeds_are branch)

pub yields-If : (branches : List Branch) (other : Option (List Stmt)) (line : ℕ) → some_yield (deeds_of (stmt.If branches other line)) ≡ (some_yield (flat_map deeds_of_branch branches) || some_yield (else_deeds other))
yields-If branches other line =
    ap some_yield (if_deeds branches other line) ∙ yields_after (deed line Other []) (flat_map deeds_of_branch branches ++ else_deeds other) refl ∙ some_yield-append (flat_map deeds_of_branch branches) (else_deeds other)

-- what the first parts of a list call and whether they yield, when the part after them is counted too
pub calls_more : {A : Type 0} (number : List ℕ → Option ℕ) (f : A → List Deed) (xs : List A) (i : ℕ) (x : A) → i < length xs → x ≡ get_or xs i x → calls_by number (flat_map f (take (i + 1) xs)) ≡ calls_by number (flat_map f (take i xs)) ++ calls_by number (f x)
calls_more number f xs i x within is =
    ap (λ ys. calls_by number (flat_map f ys)) (take_more xs i x within)
    ∙ ap (calls_by number) (flat_map-append f (take i xs) (get_or xs i x ∷ []))
    ∙ calls_by-append number (flat_map f (take i xs)) (f (get_or xs i x) ++ [])
    ∙ ap (λ ds. calls_by number (flat_map f (take i xs)) ++ calls_by number ds) (append-nil (f (get_or xs i x)) ∙ ap f (sym is))

pub calls_step : {A : Type 0} (number : List ℕ → Option ℕ) (f : A → List Deed) (xs : List A) (i : ℕ) (x : A) (old out new : List ℕ) → i < length xs → x ≡ get_or xs i x → new ≡ out ++ calls_by number (f x) → out ≡ old ++ calls_by number (flat_map f (take i xs)) → new ≡ old ++ calls_by number (flat_map f (take (i + 1) xs))
calls_step number f xs i x old out new within is more was =
    more ∙ ap (λ o. o ++ calls_by number (f x)) was ∙ append_assoc old (calls_by number (flat_map f (take i xs))) (calls_by number (f x)) ∙ ap (λ cs. old ++ cs) (sym (calls_more number f xs i x within is))

pub yields_step : {A : Type 0} (f : A → List Deed) (xs : List A) (i : ℕ) (x : A) → i < length xs → x ≡ get_or xs i x → some_yield (f x) ≡ false → some_yield (flat_map f (take i xs)) ≡ false → some_yield (flat_map f (take (i + 1) xs)) ≡ false
yields_step f xs i x within is none was =
    ap (λ ys. some_yield (flat_map f ys)) (take_more xs i x within)
    ∙ ap some_yield (flat_map-append f (take i xs) (get_or xs i x ∷ []))
    ∙ some_yield-append (flat_map f (take i xs)) (f (get_or xs i x) ++ [])
    ∙ ap (λ b. b || some_yield (f (get_or xs i x) ++ [])) was
    ∙ ap some_yield (append-nil (f (get_or xs i x)) ∙ ap f (sym is)) ∙ none

pub yields_at : {A : Type 0} (f : A → List Deed) (xs : List A) (i : ℕ) (x : A) → i < length xs → x ≡ get_or xs i x → some_yield (f x) ≡ true → some_yield (flat_map f xs) ≡ true
yields_at f [] i x within is some = absurd (omega (arith, within))
yields_at f (y ∷ ys) zero x within is some = some_yield-append (f y) (flat_map f ys) ∙ ap (λ b. b || some_yield (flat_map f ys)) (ap (λ z. some_yield (f z)) (sym is) ∙ some)
yields_at f (y ∷ ys) (suc i) x within is some =
    some_yield-append (f y) (flat_map f ys) ∙ ap (λ b. some_yield (f y) || b) (yields_at f ys i x (omega (arith, within)) is some) ∙ or_true (some_yield (f y))
  where
    or_true : (b : Bool) → (b || true) ≡ true
    or_true true = refl
    or_true false = refl

pub ruleset call_rules = (append_assoc, append-nil, calls_by-none, calls-Assign, calls-Add, calls-Del, calls-Send, calls-Output, calls-Pass, calls-Label, calls-AwaitOne, calls-Call, calls-While, calls-For, calls-If, calls-Await, calls-branch, calls-timeout)

pub ruleset yield_rules = (some_yield-none, yields-Assign, yields-Add, yields-Del, yields-Send, yields-Output, yields-Pass, yields-Call, yields-Label, yields-AwaitOne, yields-Await, yields-While, yields-For, yields-If, yields-branch)
