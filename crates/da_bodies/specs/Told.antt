-- The names in scope and the refusal that is reported, as a text is read on.
use Rattle.std.specs.Prelude.{ℕ, List, [], ◌∷◌, map, flat_map, Option}
use Rattle.da_lang.specs.declared.refusal.ScopeKind.{ScopeKind}
use Rattle.da_lang.specs.declared.refusal.ScopeKind.TheVariants as refusal
use Rattle.da_lang.specs.declared.tree.ChainTree.{ChainTree, out-ChainTree}
use Rattle.da_lang.specs.declared.tree.Expr.{Expr}
use Rattle.da_lang.specs.ExprNames.{Role, QueryVariable, Part, in_order, unless, names_of, refused_in}
use Rattle.da_lang.specs.Scopes.{Scope, at_line}
use Rattle.da_bodies.specs.Telling.{Refusal, telling}

-- these names come into scope one after the other, each as the same
abbrev pub entered_each : Role → List (List ℕ) → Scope Role → Scope Role
entered_each role [] scope = scope
entered_each role (name ∷ names) scope = entered_each role names ((name, role) ∷ scope)

-- the same of the variables of a part: those of a query come into scope
abbrev pub brought_each : Role → List (List ℕ) → Scope Role → Scope Role
brought_each QueryVariable names scope = entered_each QueryVariable names scope
brought_each role names scope = scope

-- the names in scope after a part
unfoldable pub after_part_of : Role → Scope Role → Part → Scope Role
after_part_of role scope part = brought_each role part.binds scope

-- these kinds are found at a line
unfoldable pub told_kinds : ℕ → Option Refusal → List ScopeKind → Option Refusal
told_kinds line found kinds = telling found (at_line line kinds)

-- a part at a line, and parts in the order of the text
unfoldable pub told_part : ℕ → Role → Scope Role → Option Refusal → Part → Option Refusal
told_part line role scope found part = told_kinds line found (part.kinds role scope)

unfoldable pub told_parts : ℕ → Role → Scope Role → Option Refusal → List Part → Option Refusal
told_parts line role scope found parts = told_kinds line found (in_order parts role scope)

-- the same of things that are parts
unfoldable pub behind_all : {A : Type 0} → (A → Part) → Role → Scope Role → List A → Scope Role
behind_all part role scope xs = brought_each role (flat_map (λ x. (part x).binds) xs) scope

unfoldable pub told_all : {A : Type 0} → (A → Part) → ℕ → Role → Scope Role → Option Refusal → List A → Option Refusal
told_all part line role scope found xs = told_parts line role scope found (map part xs)

-- an expression; one of which a source or an aggregate asks more
unfoldable pub told_expr : ℕ → Scope Role → Option Refusal → Expr → Option Refusal
told_expr line scope found x = told_kinds line found (refused_in scope x)

unfoldable pub told_argument : ℕ → Scope Role → Option Refusal → Expr → Option Refusal
told_argument line scope found x = told_expr line scope (told_kinds line found (unless ((names_of x).ranges scope) refusal.Unknown)) x

-- the further operand of a chain
unfoldable pub told_link : ℕ → Scope Role → Option Refusal → ChainTree → Option Refusal
told_link line scope found c = told_expr line scope found (out-ChainTree c).operand
