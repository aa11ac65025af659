-- Methods with numbers: the first one of each name, by its place.
use Rattle.std.specs.Prelude.{◌≡◌, ℕ, ◌<◌, List, [], ◌∷◌, ◌++◌, map, length, find, Option, Some, None, option_and_then, slice_get}
use Rattle.da_lang.specs.declared.tree.Member.{Member}
use Rattle.da_lang.specs.declared.tree.Member.TheVariants as member
use Rattle.da_lang.specs.ClassParts.{Body, InMethod, is_method}
use Rattle.da_calls.specs.declared.methods.Method.{Method}
use Rattle.da_calls.specs.declared.methods.Methods.{Methods}

-- the body that a method is
abbrev pub body_of : Method → Body
body_of m = record { place = InMethod m.name.now; params = m.params.now; stmts = m.body.now; line = m.line }

-- the body of a member that is a method
abbrev pub method_body : Member → Option Body
method_body (member.Method name params stmts line) = Some (record { place = InMethod name; params = params; stmts = stmts; line = line })
method_body _ = None

abbrev pub numbered : Methods → List Body
numbered methods = map body_of methods.list.items

-- the first method of each name among some bodies has a number, which is its place in a list
pub record Numbering (bodies methods : List Body) (number : List ℕ → Option ℕ) : Type 0 where
  pub found : (name : List ℕ) → find (λ b. is_method name b.place) bodies ≡ option_and_then (slice_get methods) (number name)
  pub within : (name : List ℕ) (k : ℕ) → number name ≡ Some k → k < length methods
  pub named : (k : ℕ) → k < length methods → (name : List ℕ) × (number name ≡ Some k)

-- a body was added after others
pub record AddsMethod (body : Body) (old : List Body) (number : List ℕ → Option ℕ) (new : List Body) (now : List ℕ → Option ℕ) : Type 0 where
  pub behind : (before : List Body) → Numbering before old number → Numbering (before ++ body ∷ []) new now
