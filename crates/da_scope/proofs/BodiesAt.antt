-- The first body of a class that is wanted.
use Rattle.std.proofs.Common.{◌≡◌, ◌∙◌, ap, sym, refl, ℕ, zero, suc, ◌+◌, ◌<◌, Bool, true, false, if◌then◌else◌, List, [], ◌∷◌, ◌++◌, length, get_or, take, drop, find, filter_map, take-append-drop, Option, Some, None, arith}
use Rattle.std.specs.Option.{option_map}
use Rattle.std.proofs.lemmas.List.Elements.{filter_map-append}
use Rattle.da_lang.specs.declared.tree.Param.{Param}
use Rattle.da_lang.specs.declared.tree.Stmt.{Stmt}
use Rattle.da_lang.specs.ClassParts.{Body, params_if, stmts_if}
use Rattle.da_scope.specs.HomeView.{parts}
use Rattle.da_lang.proofs.Taken.{taken}

-- the first of two lists
abbrev or_else : {Y : Type 0} → Option Y → Option Y → Option Y
or_else None other = other
or_else (Some y) other = Some y

found_or : {Y : Type 0} (same : Bool) (y : Y) (first second : Option Y) → (if same then Some y else or_else first second) ≡ or_else (if same then Some y else first) second
found_or true y first second = refl
found_or false y first second = refl

find-append : {Y : Type 0} (p : Y → Bool) (xs ys : List Y) → find p (xs ++ ys) ≡ or_else (find p xs) (find p ys)
find-append p [] ys = refl
find-append p (x ∷ xs) ys = ap (λ o. if p x then Some x else o) (find-append p xs ys) ∙ found_or (p x) x (find p xs) (find p ys)

-- what is found among the elements up to a place, where nothing is found before it
found_up_to : {X Y : Type 0} (f : X → Option Y) (p : Y → Bool) (xs : List X) (i : ℕ) (x : X) → i < length xs → x ≡ get_or xs i x
    → find p (filter_map f (take i xs)) ≡ None → find p (filter_map f (take (i + 1) xs)) ≡ find p (filter_map f (x ∷ []))
found_up_to f p xs i x inside here none =
    let one = filter_map f (x ∷ []) in
    ap (λ ys. find p (filter_map f ys)) (taken xs i x inside here) ∙ ap (find p) (filter_map-append f (take i xs) (x ∷ [])) ∙ find-append p (filter_map f (take i xs)) one ∙ ap (λ o. or_else o (find p one)) none

none_of : {Y Q : Type 0} (parts : Y → Q) (o : Option Y) → None ≡ option_map parts o → o ≡ None
none_of parts None nothing = refl
none_of parts (Some y) nothing = cc

some_of : {Y Q : Type 0} (parts : Y → Q) (o rest : Option Y) (q : Q) → Some q ≡ option_map parts o → option_map parts (or_else o rest) ≡ Some q
some_of parts None rest q is = cc
some_of parts (Some y) rest q is = sym is

pub none_step : {X Y Q : Type 0} (f : X → Option Y) (p : Y → Bool) (parts : Y → Q) (xs : List X) (i : ℕ) (x : X) → i < length xs → x ≡ get_or xs i x
    → find p (filter_map f (take i xs)) ≡ None → None ≡ option_map parts (find p (filter_map f (x ∷ []))) → find p (filter_map f (take (i + 1) xs)) ≡ None
none_step f p parts xs i x inside here none nothing = found_up_to f p xs i x inside here none ∙ none_of parts (find p (filter_map f (x ∷ []))) nothing

pub found_here : {X Y Q : Type 0} (f : X → Option Y) (p : Y → Bool) (parts : Y → Q) (xs : List X) (i : ℕ) (x : X) (q : Q) → i < length xs → x ≡ get_or xs i x
    → find p (filter_map f (take i xs)) ≡ None → Some q ≡ option_map parts (find p (filter_map f (x ∷ []))) → option_map parts (find p (filter_map f xs)) ≡ Some q
found_here f p parts xs i x q inside here none some =
    let one = find p (filter_map f (x ∷ [])) in
    let behind = filter_map f (drop (i + 1) xs) in
    let all : find p (filter_map f xs) ≡ or_else one (find p behind) =
    ap (λ ys. find p (filter_map f ys)) (sym (take-append-drop (i + 1) xs)) ∙ ap (find p) (filter_map-append f (take (i + 1) xs) (drop (i + 1) xs)) ∙ find-append p (filter_map f (take (i + 1) xs)) behind
    ∙ ap (λ o. or_else o (find p behind)) (found_up_to f p xs i x inside here none) in
    ap (option_map parts) all ∙ some_of parts one (find p behind) q some

-- the parts of a body that was found
pub params_found : (o : Option Body) (q : List Param × List Stmt) → option_map parts o ≡ Some q → params_if o ≡ q.0
params_found None q is = cc
params_found (Some b) q is = let same : parts b ≡ q = cc in ap (λ (p : List Param × List Stmt). p.0) same

pub stmts_found : (o : Option Body) (q : List Param × List Stmt) → option_map parts o ≡ Some q → stmts_if o ≡ q.1
stmts_found None q is = cc
stmts_found (Some b) q is = let same : parts b ≡ q = cc in ap (λ (p : List Param × List Stmt). p.1) same
