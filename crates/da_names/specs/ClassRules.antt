-- The refusals of a class, in the order in which code finds them.
use Rattle.std.specs.Prelude.{ℕ, Bool, false, ◌&&◌, not, ◌==◌, if◌then◌else◌, List, [], ◌∷◌, ◌++◌, map, length, drop, filter, filter_map, flat_map, Option, Some, None}
use Rattle.std.specs.List.{list_all}
use Rattle.da_lang.specs.declared.refusal.ScopeKind.TheVariants as refusal
use Rattle.da_lang.specs.declared.tree.ClassTree.{ClassTree}
use Rattle.da_lang.specs.declared.tree.Member.{Member}
use Rattle.da_lang.specs.declared.tree.Member.TheVariants as member
use Rattle.da_lang.specs.declared.tree.Param.{Param}
use Rattle.da_lang.specs.Calls.{leads}
use Rattle.da_lang.specs.ClassParts.{Declared, Place, Body, Variable, variables, is_setup, is_run, labels_at}
use Rattle.da_lang.specs.Deeds.{Doing, Calls, Deed, deeds}
use Rattle.da_lang.specs.ExprNames.{Role}
use Rattle.da_lang.specs.LabelNames.{labelled}
use Rattle.da_lang.specs.NameRules.{again, calls_none, lines_where, misfits, named_again, named_body, params_again, scope_refusals, setup_in, yield_in}
use Rattle.da_lang.specs.Scopes.{Scope, at_lines}
use Rattle.da_bodies.specs.declared.bodies.Body as code
use Rattle.da_names.specs.declared.classes.Once.{Once}
use Rattle.da_names.specs.declared.classes.Once.TheVariants as once
use Rattle.da_bodies.specs.BodyView.{body_view}
use Rattle.da_bodies.specs.Repeats.{is_declared}
use Rattle.da_bodies.specs.Telling.{Refusal}

unfoldable pub bodies_in : List code.Body → List Body
bodies_in bs = map body_view bs

-- a call in a method of a method that leads back to it
abbrev pub goes_round : ClassTree → List ℕ → Doing → Bool
goes_round c holder (Calls name) = leads c holder name && leads c name holder
goes_round c holder _ = false

-- the variables of a class, parameters and labels, as declarations
abbrev pub variable_name : Member → Option Declared
variable_name (member.Var name ty line) = Some (name, line)
variable_name _ = None

abbrev pub variable_names : ClassTree → List Declared
variable_names c = map (λ (v : Variable). (v.name, v.line)) (variables c)

abbrev pub param_names : ℕ → List Param → List Declared
param_names line params = map (λ (p : Param). (p.name, line)) params

abbrev pub label_names : List Deed → List Declared
label_names ds = filter_map (λ d. labelled d.line d.does) ds

-- labels after the patterns of a handler
abbrev pub names_at : ℕ → List (List ℕ) → List Declared
names_at line names = map (λ name. (name, line)) names

-- the line of a handler that names a label which does not pass this test
abbrev pub missing_at : (List ℕ → Bool) → Body → List ℕ
missing_at test b = if list_all test (labels_at b.place) then [] else b.line ∷ []

-- one body
unfoldable pub body_refusals : ClassTree → Scope Role → Body → List Refusal
body_refusals c scope b =
    scope_refusals scope b ++ at_lines refusal.Twice (named_again b) ++ at_lines refusal.Twice (params_again b) ++ at_lines refusal.Yield (yield_in c b) ++ at_lines refusal.Setup (setup_in b)

-- the statements of all bodies
abbrev pub deeds_by : List Body → List Deed
deeds_by bs = flat_map (λ b. deeds b.stmts) bs

-- the labels that are declared again, and those after `at` that are not among these
unfoldable pub label_refusals : List Declared → List Body → List Refusal
label_refusals labels bs = at_lines refusal.Twice (again labels) ++ at_lines refusal.Unknown (flat_map (missing_at (is_declared labels)) bs)

unfoldable pub deed_refusals : ClassTree → List Deed → List Body → List Refusal
deed_refusals c ds bs =
    at_lines refusal.Unknown (lines_where (λ d. calls_none c d.does) ds) ++ at_lines refusal.Arity (lines_where (λ d. misfits c d d.does) ds) ++ label_refusals (label_names ds) bs

-- methods, `setup` and `run`
abbrev pub is_once : Once → Place → Bool
is_once once.Setup place = is_setup place
is_once once.Run place = is_run place

abbrev pub those : (Place → Bool) → List Body → List Body
those test bs = filter (λ b. test b.place) bs

abbrev pub lines_after : (Place → Bool) → List Body → List ℕ
lines_after test bs = map (λ b. b.line) (drop 1 (those test bs))

abbrev pub has_some : (Place → Bool) → List Body → Bool
has_some test bs = not (length (those test bs) == 0)

abbrev pub no_run_line : ℕ → List Body → List ℕ
no_run_line line bs = if length (those is_run bs) == 0 then line ∷ [] else []

unfoldable pub member_refusals : ℕ → List Body → List Refusal
member_refusals line bs =
    at_lines refusal.Twice (again (filter_map named_body bs)) ++ at_lines refusal.Twice (lines_after is_setup bs) ++ at_lines refusal.Twice (lines_after is_run bs)
    ++ at_lines refusal.NoRun (no_run_line line bs)
