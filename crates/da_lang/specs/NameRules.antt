-- The refusals by names: for each kind the lines that it names, and the one that is reported.
use Rattle.std.specs.Prelude.{ℕ, Bool, true, false, not, ◌||◌, ◌==◌, if◌then◌else◌, List, [], ◌∷◌, ◌++◌, map, length, drop, Option, Some, None, option_map, option_and_then, option_to_list, flat_map, filter, filter_map, is_none, bytes_eq}
use Rattle.std.specs.List.{list_any, list_all}
use Rattle.da_lang.specs.declared.refusal.ScopeKind.{ScopeKind}
use Rattle.da_lang.specs.declared.refusal.ScopeKind.TheVariants as refusal
use Rattle.da_lang.specs.declared.tree.ClassTree.{ClassTree}
use Rattle.da_lang.specs.declared.tree.Expr.{Expr}
use Rattle.da_lang.specs.declared.tree.Expr.TheVariants as ex
use Rattle.da_lang.specs.declared.tree.MainLine.{MainLine}
use Rattle.da_lang.specs.declared.tree.MainLine.TheVariants as main_line
use Rattle.da_lang.specs.declared.tree.Tree.{Tree}
use Rattle.da_lang.specs.Calls.{is_yield, leads, yields, deeds_in}
use Rattle.da_lang.specs.ClassParts.{Declared, Place, InHandler, Body, bodies, bodies_where, variables, is_setup, is_run, is_handler, method_name, labels_at, method_of, class_of, setup_of, params_if}
use Rattle.da_lang.specs.Deeds.{Doing, Sends, Outputs, Calls, Loops, Deed, deeds}
use Rattle.da_lang.specs.ExprNames.{Role, ClassVariable, Local, Made, Part, in_order, taken, refused_in, pattern_part}
use Rattle.da_lang.specs.LabelNames.{all_deeds, labels_of}
use Rattle.da_lang.specs.Scopes.{Scope, Refused, look, entered, at_line, at_lines, told}
use Rattle.da_lang.specs.StmtNames.{refused_in_body}
use Rattle.da_lang.specs.Written.{asks, reads_clock}

-- the deeds of a kind, the line of each
abbrev pub lines_where : (Deed → Bool) → List Deed → List ℕ
lines_where test ds = map (λ d. d.line) (filter test ds)

-- the lines of the declarations whose name was declared before
abbrev pub again_after : List (List ℕ) → List Declared → List ℕ
again_after before [] = []
again_after before (x ∷ xs) = if list_any (bytes_eq x.0) before then x.1 ∷ again_after (x.0 ∷ before) xs else again_after (x.0 ∷ before) xs

abbrev pub again : List Declared → List ℕ
again = again_after []

-- unknown and shadow, by what is in scope: in a class its variables, in a body its parameters or the variables of its
-- patterns besides
abbrev pub class_scope : ClassTree → Scope Role
class_scope c = entered ClassVariable (map (λ v. v.name) (variables c)) []

abbrev pub patterns_at : Place → List Part
patterns_at (InHandler message from labels) = map pattern_part (message ∷ option_to_list from)
patterns_at _ = []

abbrev pub locals_of : Body → List (List ℕ)
locals_of b = map (λ p. p.name) b.params ++ flat_map (λ part. part.binds) (patterns_at b.place)

abbrev pub shadowed_params : Scope Role → Body → List ScopeKind
shadowed_params scope b = flat_map (λ p. taken (look scope p.name)) b.params

-- a variable of a handler's patterns that has the name of an earlier one in them
abbrev pub doubled : Body → List ScopeKind
doubled b = map (λ line. refusal.Shadow) (again (map (λ name. (name, b.line)) (flat_map (λ part. part.binds) (patterns_at b.place))))

abbrev pub scope_refusals : Scope Role → Body → List (Refused ScopeKind)
scope_refusals scope b =
    at_line b.line (shadowed_params scope b ++ doubled b ++ in_order (patterns_at b.place) Local scope) ++ refused_in_body b.stmts (entered Local (locals_of b) scope)

-- unknown: a call of no method
abbrev pub calls_none : ClassTree → Doing → Bool
calls_none c (Calls name) = is_none (method_of c name)
calls_none c _ = false

-- unknown: a name after `at` that is no label of the class
abbrev pub is_label : ClassTree → List ℕ → Bool
is_label c name = list_any (λ l. bytes_eq l.0 name) (labels_of c)

abbrev pub labels_none : ClassTree → Body → List ℕ
labels_none c b = if list_all (is_label c) (labels_at b.place) then [] else b.line ∷ []

-- twice: variables, methods, `setup` and `run`, labels of a class and after one `at`, parameters of a list
abbrev pub variables_again : ClassTree → List ℕ
variables_again c = again (map (λ v. (v.name, v.line)) (variables c))

abbrev pub named_body : Body → Option Declared
named_body b = option_map (λ name. (name, b.line)) (method_name b.place)

abbrev pub methods_again : ClassTree → List ℕ
methods_again c = again (filter_map named_body (bodies c))

abbrev pub after_first : (Place → Bool) → ClassTree → List ℕ
after_first test c = map (λ b. b.line) (drop 1 (bodies_where test c))

abbrev pub labels_again : ClassTree → List ℕ
labels_again c = again (labels_of c)

-- a label that stands twice after one `at`
abbrev pub named_again : Body → List ℕ
named_again b = again (map (λ name. (name, b.line)) (labels_at b.place))

abbrev pub params_again : Body → List ℕ
params_again b = again (map (λ p. (p.name, b.line)) b.params)

abbrev pub twice_in : ClassTree → List ℕ
twice_in c = variables_again c ++ methods_again c ++ after_first is_setup c ++ after_first is_run c ++ labels_again c ++ flat_map named_again (bodies c) ++ flat_map params_again (bodies c)

-- recursive: a call in a method that leads back to it
abbrev pub leads_back : ClassTree → List ℕ → Doing → Bool
leads_back c holder (Calls name) = leads c name holder
leads_back c holder _ = false

abbrev pub method_names : ClassTree → List (List ℕ)
method_names c = filter_map (λ b. method_name b.place) (bodies c)

abbrev pub recursive_in : ClassTree → List ℕ → List ℕ
recursive_in c name = lines_where (λ d. leads_back c name d.does) (deeds_in c name)

-- yield: in a handler or `setup` a yield point, or a call of a method that yields
abbrev pub yields_by : ClassTree → Doing → Bool
yields_by c (Calls name) = yields c name
yields_by c does = is_yield does

abbrev pub yield_in : ClassTree → Body → List ℕ
yield_in c b = if is_handler b.place || is_setup b.place then lines_where (λ d. yields_by c d.does) (deeds b.stmts) else []

-- setup: in `setup` what sends, prints, loops, calls or asks
abbrev pub acts : Doing → Bool
acts Sends = true
acts Outputs = true
acts Loops = true
acts (Calls name) = true
acts _ = false

abbrev pub setup_in : Body → List ℕ
setup_in b = if is_setup b.place then lines_where (λ d. acts d.does || list_any asks d.says) (deeds b.stmts) else []

-- norun
abbrev pub no_run_in : ClassTree → List ℕ
no_run_in c = if length (bodies_where is_run c) == 0 then c.line ∷ [] else []

-- arity: a call of a method with another number of arguments
abbrev pub fits_params : List Expr → Body → Bool
fits_params xs b = length xs == length b.params

abbrev pub misfits : ClassTree → Deed → Doing → Bool
misfits c d (Calls name) = list_any (λ b. not (fits_params d.says b)) (option_to_list (method_of c name))
misfits c d _ = false

abbrev pub class_refusals : ClassTree → List (Refused ScopeKind)
class_refusals c =
    at_lines refusal.Unknown (lines_where (λ d. calls_none c d.does) (all_deeds c))
    ++ at_lines refusal.Unknown (flat_map (labels_none c) (bodies c))
    ++ flat_map (scope_refusals (class_scope c)) (bodies c)
    ++ at_lines refusal.Twice (twice_in c)
    ++ at_lines refusal.Recursive (flat_map (recursive_in c) (method_names c))
    ++ at_lines refusal.Yield (flat_map (yield_in c) (bodies c))
    ++ at_lines refusal.Setup (flat_map setup_in (bodies c))
    ++ at_lines refusal.NoRun (no_run_in c)
    ++ at_lines refusal.Arity (lines_where (λ d. misfits c d d.does) (all_deeds c))

-- a line of `main` after others: the names that these have made, the first class that each was made of
abbrev pub made_class : List ℕ → MainLine → Option (List ℕ)
made_class name (main_line.New other class count line) = if bytes_eq other name then Some class else None
made_class name (main_line.Setup other xs line) = None

abbrev pub first_class : List MainLine → List ℕ → Option (List ℕ)
first_class [] name = None
first_class (l ∷ ls) name = elim (made_class name l) [ Some class ↦ Some class | None ↦ first_class ls name ]

abbrev pub class_made : Tree → List MainLine → List ℕ → Option ClassTree
class_made t before name = option_and_then (class_of t) (first_class before name)

abbrev pub made_name : MainLine → Option (List ℕ)
made_name (main_line.New name class count line) = Some name
made_name (main_line.Setup name xs line) = None

abbrev pub made_scope : List MainLine → Scope Role
made_scope before = entered Made (filter_map made_name before) []

-- `setup` has no parameters where a class has none
abbrev pub setup_misfits : List Expr → ClassTree → Bool
setup_misfits xs c = not (length xs == length (params_if (setup_of c)))

abbrev pub setup_kinds : Tree → List MainLine → List ℕ → List Expr → List ScopeKind
setup_kinds t before name xs =
    flat_map (refused_in (made_scope before)) (ex.Name name ∷ xs)
    ++ (if list_any (λ x. asks x || reads_clock x) xs then refusal.Setup ∷ [] else [])
    ++ (if list_any (setup_misfits xs) (option_to_list (class_made t before name)) then refusal.Arity ∷ [] else [])

abbrev pub main_refusals_at : Tree → List MainLine → MainLine → List (Refused ScopeKind)
main_refusals_at t before (main_line.New name class count line) = at_line line (if is_none (class_of t class) then refusal.Unknown ∷ [] else [])
main_refusals_at t before (main_line.Setup name xs line) = at_line line (setup_kinds t before name xs)

abbrev pub main_refusals : Tree → List MainLine → List MainLine → List (Refused ScopeKind)
main_refusals t before [] = []
main_refusals t before (l ∷ ls) = main_refusals_at t before l ++ main_refusals t (before ++ l ∷ []) ls

-- twice: classes, tags, names of `main`, lines of `setup` for one name
abbrev pub made_at : MainLine → Option Declared
made_at (main_line.New name class count line) = Some (name, line)
made_at (main_line.Setup name xs line) = None

abbrev pub set_up_at : MainLine → Option Declared
set_up_at (main_line.New name class count line) = None
set_up_at (main_line.Setup name xs line) = Some (name, line)

abbrev pub twice_of : Tree → List ℕ
twice_of t =
    again (map (λ c. (c.name, c.line)) t.classes) ++ again (map (λ x. (x.tag, x.line)) t.messages)
    ++ again (filter_map made_at t.main) ++ again (filter_map set_up_at t.main)

-- every refusal by names
unfoldable pub name_refusals : Tree → List (Refused ScopeKind)
name_refusals t = flat_map class_refusals t.classes ++ at_lines refusal.Twice (twice_of t) ++ main_refusals t [] t.main

-- the order of the kinds on one line
abbrev pub rank : ScopeKind → ℕ
rank refusal.Unknown = 0
rank refusal.Twice = 1
rank refusal.Shadow = 2
rank refusal.Recursive = 3
rank refusal.Yield = 4
rank refusal.Setup = 5
rank refusal.NoRun = 6
rank refusal.Arity = 7

-- the refusal by names that is reported, if there is one
abbrev pub name_fault : Tree → Option (Refused ScopeKind)
name_fault t = told rank (name_refusals t)
