-- The lines of `main`, by what code keeps of the classes and of the names made before.
use Rattle.std.specs.Prelude.{ℕ, not, ◌==◌, ◌||◌, if◌then◌else◌, List, [], ◌∷◌, ◌++◌, flat_map, length, Option, is_none, option_map, option_and_then, option_to_list}
use Rattle.std.specs.BTreeMap.{BTreeMap, get_by}
use Rattle.std.specs.Borrow.{Bor}
use Rattle.std.specs.Cmp.Lexicographic.{slice_cmp}
use Rattle.std.specs.List.{list_any}
use Rattle.std.specs.Ordering.{nat_cmp}
use Rattle.da_lang.specs.declared.refusal.ScopeKind.{ScopeKind}
use Rattle.da_lang.specs.declared.refusal.ScopeKind.TheVariants as refusal
use Rattle.da_lang.specs.declared.tree.ClassTree.{ClassTree}
use Rattle.da_lang.specs.declared.tree.Expr.{Expr}
use Rattle.da_lang.specs.declared.tree.Expr.TheVariants as ex
use Rattle.da_lang.specs.declared.tree.MainLine.{MainLine}
use Rattle.da_lang.specs.declared.tree.MainLine.TheVariants as main_line
use Rattle.da_lang.specs.ClassParts.{params_if, setup_of}
use Rattle.da_lang.specs.ExprNames.{Role, refused_in}
use Rattle.da_lang.specs.Scopes.{Scope}
use Rattle.da_lang.specs.Written.{asks, reads_clock}
use Rattle.da_bodies.specs.Telling.{Refusal}
use Rattle.da_bodies.specs.Told.{told_kinds}

-- what a map has at a name
abbrev pub at_name : {A : Type 0} → BTreeMap (Bor (List ℕ)) A → List ℕ → Option A
at_name entries name = get_by (λ k. slice_cmp nat_cmp name k.now) entries

abbrev pub class_at : BTreeMap (Bor (List ℕ)) (Bor (List ℕ)) → List ℕ → Option (List ℕ)
class_at classes name = option_map (λ (class : Bor (List ℕ)). class.now) (at_name classes name)

-- how many arguments a class takes
abbrev pub setup_arity : ClassTree → ℕ
setup_arity c = length (params_if (setup_of c))

-- a line of `setup`, by the names in scope and by how many arguments the class of its name takes
abbrev pub setup_kinds_by : Scope Role → Option ℕ → List ℕ → List Expr → List ScopeKind
setup_kinds_by scope arity name xs =
    flat_map (refused_in scope) (ex.Name name ∷ xs)
    ++ (if list_any (λ x. asks x || reads_clock x) xs then refusal.Setup ∷ [] else [])
    ++ (if list_any (λ n. not (length xs == n)) (option_to_list arity) then refusal.Arity ∷ [] else [])

-- a line, by how many arguments each class takes, by the class of each name, and by the names in scope
unfoldable pub told_line : (List ℕ → Option ℕ) → (List ℕ → Option (List ℕ)) → Scope Role → Option Refusal → MainLine → Option Refusal
told_line arity class scope found (main_line.New name c count line) = told_kinds line found (if is_none (arity c) then refusal.Unknown ∷ [] else [])
told_line arity class scope found (main_line.Setup name xs line) = told_kinds line found (setup_kinds_by scope (option_and_then arity (class name)) name xs)
