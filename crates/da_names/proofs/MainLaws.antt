-- What is reported of `main`, line by line.
use Rattle.std.specs.Prelude.{◌≡◌, refl, ℕ, ◌+◌, ◌<◌, ◌==◌, ◌||◌, length, take, Bool, true, false, not, if◌then◌else◌, List, [], ◌∷◌, ◌++◌, map, flat_map, filter_map, Option, Some, None, is_none, is_some, option_map, option_and_then, option_to_list}
use Rattle.std.specs.List.{list_any, fold}
use Rattle.std.specs.Option.{option_or}
use Rattle.std.proofs.Common.{◌∙◌, sym, ap, get_or, append_assoc}
use Rattle.std.proofs.lemmas.List.{append-nil, take_more}
use Rattle.std.proofs.lemmas.List.Elements.{filter_map-append}
use Rattle.da_lang.specs.declared.refusal.ScopeKind.{ScopeKind}
use Rattle.da_lang.specs.declared.refusal.ScopeKind.TheVariants as refusal
use Rattle.da_lang.specs.declared.tree.ClassTree.{ClassTree}
use Rattle.da_lang.specs.declared.tree.Expr.{Expr}
use Rattle.da_lang.specs.declared.tree.Expr.TheVariants as ex
use Rattle.da_lang.specs.declared.tree.MainLine.{MainLine}
use Rattle.da_lang.specs.declared.tree.MainLine.TheVariants as main_line
use Rattle.da_lang.specs.declared.tree.Tree.{Tree}
use Rattle.da_lang.specs.ClassParts.{class_of}
use Rattle.da_lang.specs.ClassParts as parts
use Rattle.da_lang.specs.ExprNames.{Role, Local, Made, refused_in, unless, used}
use Rattle.da_lang.specs.NameRules.{rank, again, class_refusals, name_refusals, twice_of, made_at, set_up_at, made_class, made_name, first_class, made_scope, setup_misfits, setup_kinds, main_refusals_at, main_refusals}
use Rattle.da_lang.specs.Scopes.{Scope, look, at_line, at_lines, told}
use Rattle.da_lang.specs.Written.{asks, reads_clock}
use Rattle.da_names.specs.Early.{asks_early}
use Rattle.da_names.specs.MainView.{setup_arity, setup_kinds_by, told_line}
use Rattle.da_bodies.specs.Repeats.{declared_in}
use Rattle.da_bodies.specs.declared.repeats.Declared as code
use Rattle.da_bodies.specs.Telling.{Refusal, telling}
use Rattle.da_bodies.specs.Told.{entered_each, told_kinds, told_expr}
use Rattle.da_bodies.proofs.AgainLaws.{at_lines-append}
use Rattle.da_bodies.proofs.PartLaws.{expr_plain}
use Rattle.da_bodies.proofs.SameLook.{SameLook, same_each, entered_each-append}
use Rattle.da_bodies.proofs.KindOrders.{name_order}
use Rattle.da_bodies.proofs.TellingLaws.{telling-append, told-telling}
use Rattle.da_bodies.proofs.ToldExprs.{told_expr-Name}
use Rattle.da_bodies.proofs.ToldParts.{told_kinds-nil, told_kinds-append}

-- one more line that may declare a name
one_of : {A : Type 0} (o : Option A) → filter_map (λ (y : Option A). y) (o ∷ []) ≡ option_to_list o
one_of None = refl
one_of (Some y) = refl

declared_more : {A B : Type 0} (of : A → Option B) (before : List B) (found : Option B) (xs : List A) (i : ℕ) (x : A) → i < length xs → x ≡ get_or xs i x → before ≡ filter_map of (take i xs) → found ≡ of x → before ++ option_to_list found ≡ filter_map of (take (i + 1) xs)
declared_more of before found xs i x within here so_far is =
    let more : take (i + 1) xs ≡ take i xs ++ x ∷ [] = take_more xs i x within ∙ ap (λ y. take i xs ++ y ∷ []) (sym here) in
    ap (λ b. b ++ option_to_list found) so_far ∙ ap (λ o. filter_map of (take i xs) ++ option_to_list o) is
    ∙ ap (λ l. filter_map of (take i xs) ++ l) (sym (one_of (of x)))
    ∙ sym (filter_map-append of (take i xs) (x ∷ [])) ∙ ap (filter_map of) (sym more)

-- the names that lines make are in scope in the reverse order
pub made_look : (before : List MainLine) (scope : Scope Role) → scope ≡ entered_each Made (filter_map made_name before) [] → SameLook scope (made_scope before)
made_look before scope is = record { at = λ q. ap (λ s. look s q) is ∙ sym ((same_each Made (filter_map made_name before) []).at q) }

pub made_more : (scope next : Scope Role) (xs : List MainLine) (i : ℕ) (x : MainLine) → i < length xs → x ≡ get_or xs i x → scope ≡ entered_each Made (filter_map made_name (take i xs)) [] → next ≡ entered_each Made (option_to_list (made_name x)) scope → next ≡ entered_each Made (filter_map made_name (take (i + 1) xs)) []
made_more scope next xs i x within here so_far step =
    step ∙ ap (entered_each Made (option_to_list (made_name x))) so_far
    ∙ sym (entered_each-append Made (filter_map made_name (take i xs)) (option_to_list (made_name x)) [])
    ∙ ap (λ ns. entered_each Made ns []) (declared_more made_name (filter_map made_name (take i xs)) (made_name x) xs i x within here refl refl)

-- the first class of a name
first_by : (o rest more : Option (List ℕ)) → (made : Option (List ℕ)) → rest ≡ option_or more made → (elim o [ Some class ↦ Some class | None ↦ rest ]) ≡ option_or (elim o [ Some class ↦ Some class | None ↦ more ]) made
first_by None rest more made is = is
first_by (Some class) rest more made is = refl

only_by : (o : Option (List ℕ)) → (elim o [ Some class ↦ Some class | None ↦ None ]) ≡ o
only_by None = refl
only_by (Some class) = refl

first_class-snoc : (xs : List MainLine) (y : MainLine) (q : List ℕ) → first_class (xs ++ y ∷ []) q ≡ option_or (first_class xs q) (made_class q y)
first_class-snoc [] y q = only_by (made_class q y)
first_class-snoc (x ∷ xs) y q = first_by (made_class q x) (first_class (xs ++ y ∷ []) q) (first_class xs q) (made_class q y) (first_class-snoc xs y q)

pub first_more : (old new : Option (List ℕ)) (q : List ℕ) (xs : List MainLine) (i : ℕ) (x : MainLine) → i < length xs → x ≡ get_or xs i x → old ≡ first_class (take i xs) q → new ≡ option_or old (made_class q x) → new ≡ first_class (take (i + 1) xs) q
first_more old new q xs i x within here so_far step =
    let more : take (i + 1) xs ≡ take i xs ++ x ∷ [] = take_more xs i x within ∙ ap (λ y. take i xs ++ y ∷ []) (sym here) in
    step ∙ ap (λ o. option_or o (made_class q x)) so_far ∙ sym (first_class-snoc (take i xs) x q) ∙ ap (λ ls. first_class ls q) (sym more)

-- a line, by the lines before it
none_mapped : {A B : Type 0} (f : A → B) (o : Option A) → is_none (option_map f o) ≡ is_none o
none_mapped f None = refl
none_mapped f (Some x) = refl

refused_same : (s t : Scope Role) → SameLook s t → (xs : List Expr) → flat_map (refused_in s) xs ≡ flat_map (refused_in t) xs
refused_same s t same [] = refl
refused_same s t same (x ∷ xs) =
    ap (λ ks. ks ++ flat_map (refused_in s) xs) ((expr_plain x).kinds Local Local s t same) ∙ ap (λ ks. refused_in t x ++ ks) (refused_same s t same xs)

misfit_of : (xs : List Expr) (o : Option ClassTree) → list_any (λ n. not (length xs == n)) (option_to_list (option_map setup_arity o)) ≡ list_any (setup_misfits xs) (option_to_list o)
misfit_of xs None = refl
misfit_of xs (Some c) = refl

misfit_by : (t : Tree) (arity : List ℕ → Option ℕ) (xs : List Expr) → ((q : List ℕ) → arity q ≡ option_map setup_arity (class_of t q)) → (o : Option (List ℕ))
    → list_any (λ n. not (length xs == n)) (option_to_list (option_and_then arity o)) ≡ list_any (setup_misfits xs) (option_to_list (option_and_then (class_of t) o))
misfit_by t arity xs arities None = refl
misfit_by t arity xs arities (Some c) = ap (λ (o : Option ℕ). list_any (λ n. not (length xs == n)) (option_to_list o)) (arities c) ∙ misfit_of xs (class_of t c)

abbrev kind_if : Bool → ScopeKind → List ScopeKind
kind_if b kind = if b then kind ∷ [] else []

setup_kinds-by : (t : Tree) (before : List MainLine) (arity : List ℕ → Option ℕ) (class : List ℕ → Option (List ℕ)) (scope : Scope Role) (name : List ℕ) (xs : List Expr)
    → ((q : List ℕ) → arity q ≡ option_map setup_arity (class_of t q)) → ((q : List ℕ) → class q ≡ first_class before q) → SameLook scope (made_scope before)
    → setup_kinds_by scope (option_and_then arity (class name)) name xs ≡ setup_kinds t before name xs
setup_kinds-by t before arity class scope name xs arities classes same =
    let early : List ScopeKind = if list_any (λ x. asks x || reads_clock x) xs then refusal.Setup ∷ [] else [] in
    ap (λ ks. (ks ++ early) ++ kind_if (list_any (λ n. not (length xs == n)) (option_to_list (option_and_then arity (class name)))) refusal.Arity) (refused_same scope (made_scope before) same (ex.Name name ∷ xs))
    ∙ ap (λ (o : Option (List ℕ)). (flat_map (refused_in (made_scope before)) (ex.Name name ∷ xs) ++ early) ++ kind_if (list_any (λ n. not (length xs == n)) (option_to_list (option_and_then arity o))) refusal.Arity) (classes name)
    ∙ ap (λ b. (flat_map (refused_in (made_scope before)) (ex.Name name ∷ xs) ++ early) ++ kind_if b refusal.Arity) (misfit_by t arity xs arities (first_class before name))

pub told_line-by : (t : Tree) (before : List MainLine) (arity : List ℕ → Option ℕ) (class : List ℕ → Option (List ℕ)) (scope : Scope Role) (found : Option Refusal) (l : MainLine)
    → ((q : List ℕ) → arity q ≡ option_map setup_arity (class_of t q)) → ((q : List ℕ) → class q ≡ first_class before q) → SameLook scope (made_scope before)
    → told_line arity class scope found l ≡ telling found (main_refusals_at t before l)
unfolding told_line told_kinds
told_line-by t before arity class scope found (main_line.New name c count line) arities classes same =
    ap (λ b. telling found (at_line line (kind_if b refusal.Unknown))) (ap is_none (arities c) ∙ none_mapped setup_arity (class_of t c))
told_line-by t before arity class scope found (main_line.Setup name xs line) arities classes same =
    ap (λ ks. telling found (at_line line ks)) (setup_kinds-by t before arity class scope name xs arities classes same)

-- the two forms of a line, as code tells them
unless_some : {A : Type 0} (o : Option A) (kind : ScopeKind) → unless (is_some o) kind ≡ kind_if (is_none o) kind
unless_some None kind = refl
unless_some (Some x) kind = refl

pub told_new : (arity : List ℕ → Option ℕ) (class : List ℕ → Option (List ℕ)) (scope : Scope Role) (found : Option Refusal) (name c : List ℕ) (count : Option ℕ) (line : ℕ) (known : Bool) → known ≡ is_some (arity c) → told_kinds line found (unless known refusal.Unknown) ≡ told_line arity class scope found (main_line.New name c count line)
unfolding told_line
told_new arity class scope found name c count line known is = ap (λ ks. told_kinds line found ks) (ap (λ b. unless b refusal.Unknown) is ∙ unless_some (arity c) refusal.Unknown)

pub told_set_up : (arity : List ℕ → Option ℕ) (class : List ℕ → Option (List ℕ)) (scope : Scope Role) (found : Option Refusal) (name : List ℕ) (xs : List Expr) (line : ℕ) (takes : Option ℕ) (first second : List ℕ) (args : List Expr)
    → takes ≡ option_and_then arity (class first) → first ≡ name → second ≡ name → args ≡ xs
    → told_kinds line found (setup_kinds_by scope takes second args) ≡ told_line arity class scope found (main_line.Setup name xs line)
unfolding told_line
told_set_up arity class scope found name xs line takes first second args takes_is first_is second_is args_is =
    ap (λ o. told_kinds line found (setup_kinds_by scope o second args)) (takes_is ∙ ap (λ n. option_and_then arity (class n)) first_is)
    ∙ ap (λ n. told_kinds line found (setup_kinds_by scope (option_and_then arity (class name)) n args)) second_is
    ∙ ap (λ ys. told_kinds line found (setup_kinds_by scope (option_and_then arity (class name)) name ys)) args_is

-- one more line
main_refusals-snoc : (t : Tree) (before xs : List MainLine) (y : MainLine) → main_refusals t before (xs ++ y ∷ []) ≡ main_refusals t before xs ++ main_refusals_at t (before ++ xs) y
main_refusals-snoc t before [] y = append-nil (main_refusals_at t before y) ∙ ap (λ b. main_refusals_at t b y) (sym (append-nil before))
main_refusals-snoc t before (x ∷ xs) y =
    ap (λ rs. main_refusals_at t before x ++ rs)
    (main_refusals-snoc t (before ++ x ∷ []) xs y ∙ ap (λ b. main_refusals t (before ++ x ∷ []) xs ++ main_refusals_at t b y) (append_assoc before (x ∷ []) xs))
    ∙ sym (append_assoc (main_refusals_at t before x) (main_refusals t (before ++ x ∷ []) xs) (main_refusals_at t (before ++ x ∷ xs) y))

pub main_more : (t : Tree) (first found last : Option Refusal) (xs : List MainLine) (i : ℕ) (x : MainLine) → i < length xs → x ≡ get_or xs i x → found ≡ telling first (main_refusals t [] (take i xs)) → last ≡ telling found (main_refusals_at t (take i xs) x) → last ≡ telling first (main_refusals t [] (take (i + 1) xs))
main_more t first found last xs i x within here told step =
    let more : take (i + 1) xs ≡ take i xs ++ x ∷ [] = take_more xs i x within ∙ ap (λ y. take i xs ++ y ∷ []) (sym here) in
    step ∙ ap (λ f. telling f (main_refusals_at t (take i xs) x)) told
    ∙ sym (telling-append first (main_refusals t [] (take i xs)) (main_refusals_at t (take i xs) x))
    ∙ ap (telling first) (sym (main_refusals-snoc t [] (take i xs) x) ∙ ap (main_refusals t []) (sym more))

-- a line of `setup`, as code tells it
told_exprs : (line : ℕ) (scope : Scope Role) (found : Option Refusal) (xs : List Expr) → fold (told_expr line scope) found xs ≡ told_kinds line found (flat_map (refused_in scope) xs)
unfolding told_expr
told_exprs line scope found [] = sym (told_kinds-nil line found)
told_exprs line scope found (x ∷ xs) = told_exprs line scope (told_kinds line found (refused_in scope x)) xs ∙ sym (told_kinds-append line found (refused_in scope x) (flat_map (refused_in scope) xs))

told_use : (line : ℕ) (scope : Scope Role) (found : Option Refusal) (name : List ℕ) → told_kinds line found (used (look scope name)) ≡ told_kinds line found (refused_in scope (ex.Name name))
unfolding told_expr
told_use line scope found name = sym (told_expr-Name line scope found name)

unless_not : (b : Bool) (kind : ScopeKind) → unless (not b) kind ≡ kind_if b kind
unless_not true kind = refl
unless_not false kind = refl

early_any : (xs : List Expr) → list_any (asks_early true) xs ≡ list_any (λ x. asks x || reads_clock x) xs
unfolding asks_early
early_any [] = refl
early_any (x ∷ xs) = ap (λ b. (asks x || reads_clock x) || b) (early_any xs)

pub told_setup : (line : ℕ) (scope : Scope Role) (found first second third last : Option Refusal) (name : List ℕ) (xs : List Expr) (arity : Option ℕ) (known : List ScopeKind) (early fits : Bool)
    → known ≡ used (look scope name) → first ≡ told_kinds line found known
    → second ≡ fold (told_expr line scope) first xs
    → early ≡ list_any (asks_early true) xs → third ≡ told_kinds line second (unless (not early) refusal.Setup)
    → fits ≡ not (list_any (λ n. not (length xs == n)) (option_to_list arity)) → last ≡ told_kinds line third (unless fits refusal.Arity)
    → last ≡ told_kinds line found (setup_kinds_by scope arity name xs)
told_setup line scope found first second third last name xs arity known early fits known_is first_is second_is early_is third_is fits_is last_is =
    let names = flat_map (refused_in scope) (ex.Name name ∷ xs) in
    let misfit : Bool = list_any (λ n. not (length xs == n)) (option_to_list arity) in
    let asked : Bool = list_any (λ x. asks x || reads_clock x) xs in
    let used_at : first ≡ told_kinds line found (refused_in scope (ex.Name name)) = first_is ∙ ap (told_kinds line found) known_is ∙ told_use line scope found name in
    let named : second ≡ told_kinds line found names =
    second_is ∙ ap (λ f. fold (told_expr line scope) f xs) used_at ∙ told_exprs line scope (told_kinds line found (refused_in scope (ex.Name name))) xs
    ∙ sym (told_kinds-append line found (refused_in scope (ex.Name name)) (flat_map (refused_in scope) xs)) in
    let asking : third ≡ told_kinds line found (names ++ kind_if asked refusal.Setup) =
    third_is ∙ ap (λ f. told_kinds line f (unless (not early) refusal.Setup)) named ∙ ap (told_kinds line (told_kinds line found names)) (unless_not early refusal.Setup ∙ ap (λ b. kind_if b refusal.Setup) (early_is ∙ early_any xs))
    ∙ sym (told_kinds-append line found names (kind_if asked refusal.Setup)) in
    last_is ∙ ap (λ f. told_kinds line f (unless fits refusal.Arity)) asking ∙ ap (told_kinds line (told_kinds line found (names ++ kind_if asked refusal.Setup))) (ap (λ b. unless b refusal.Arity) fits_is ∙ unless_not misfit refusal.Arity)
    ∙ sym (told_kinds-append line found (names ++ kind_if asked refusal.Setup) (kind_if misfit refusal.Arity))

-- all that is declared twice
two_again : (found : Option Refusal) (xs ys : List ℕ) → telling (telling found (at_lines refusal.Twice xs)) (at_lines refusal.Twice ys) ≡ telling found (at_lines refusal.Twice (xs ++ ys))
two_again found xs ys = sym (telling-append found (at_lines refusal.Twice xs) (at_lines refusal.Twice ys)) ∙ ap (telling found) (sym (at_lines-append refusal.Twice xs ys))

pub twice_by : {A : Type 0} (of : List A → List parts.Declared) (found last : Option Refusal) (shown all : List A) (kept seen : List code.Declared) → shown ≡ all → declared_in kept ≡ of shown → seen ≡ kept
    → last ≡ telling found (at_lines refusal.Twice (again (declared_in seen))) → last ≡ telling found (at_lines refusal.Twice (again (of all)))
twice_by of found last shown all kept seen all_shown is all_seen step =
    step ∙ ap (λ ds. telling found (at_lines refusal.Twice (again ds))) (ap declared_in all_seen ∙ is ∙ ap of all_shown)

pub told_twice : (found : Option Refusal) (t : Tree)
    → telling (telling (telling (telling found (at_lines refusal.Twice (again (map (λ c. (c.name, c.line)) t.classes)))) (at_lines refusal.Twice (again (map (λ x. (x.tag, x.line)) t.messages)))) (at_lines refusal.Twice (again (filter_map made_at t.main)))) (at_lines refusal.Twice (again (filter_map set_up_at t.main)))
    ≡ telling found (at_lines refusal.Twice (twice_of t))
told_twice found t =
    let classes : List ℕ = again (map (λ c. (c.name, c.line)) t.classes) in
    let tags : List ℕ = again (map (λ x. (x.tag, x.line)) t.messages) in
    let made : List ℕ = again (filter_map made_at t.main) in
    let set_up : List ℕ = again (filter_map set_up_at t.main) in
    let more : Option Refusal → List ℕ → Option Refusal = λ f lines. telling f (at_lines refusal.Twice lines) in
    ap (λ f. more (more f made) set_up) (two_again found classes tags)
    ∙ ap (λ f. more f set_up) (two_again found (classes ++ tags) made)
    ∙ two_again found ((classes ++ tags) ++ made) set_up

-- the whole program
pub told_whole : (t : Tree) (first second last : Option Refusal) → first ≡ telling None (flat_map class_refusals t.classes) → second ≡ telling first (at_lines refusal.Twice (twice_of t)) → last ≡ telling second (main_refusals t [] t.main) → last ≡ told rank (name_refusals t)
unfolding name_refusals
told_whole t first second last classes twice main =
    main ∙ ap (λ f. telling f (main_refusals t [] t.main)) (twice ∙ ap (λ f. telling f (at_lines refusal.Twice (twice_of t))) classes ∙ sym (telling-append None (flat_map class_refusals t.classes) (at_lines refusal.Twice (twice_of t))))
    ∙ sym (telling-append None (flat_map class_refusals t.classes ++ at_lines refusal.Twice (twice_of t)) (main_refusals t [] t.main))
    ∙ sym (told-telling name_order (name_refusals t))
