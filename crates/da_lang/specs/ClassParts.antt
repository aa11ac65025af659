-- The parts of the trees of classes, and of `main`.
use Rattle.std.specs.Prelude.{ℕ, Bool, true, false, List, [], Option, Some, None, find, filter, filter_map, bytes_eq}
use Rattle.da_lang.specs.declared.tree.ClassTree.{ClassTree}
use Rattle.da_lang.specs.declared.tree.Member.{Member}
use Rattle.da_lang.specs.declared.tree.Member.TheVariants as member
use Rattle.da_lang.specs.declared.tree.Param.{Param}
use Rattle.da_lang.specs.declared.tree.PatternTree.{PatternTree}
use Rattle.da_lang.specs.declared.tree.Stmt.{Stmt}
use Rattle.da_lang.specs.declared.tree.Tree.{Tree}
use Rattle.da_lang.specs.declared.ty.Ty.{Ty}

-- a name with the line of its declaration
abbrev pub Declared : Type 0
Declared = List ℕ × ℕ

-- What has a body: `setup`, `run`, a method, or a handler with its patterns.
pub data Place : Type 0 where
  InSetup : Place
  InRun : Place
  InMethod : List ℕ → Place
  InHandler : PatternTree → Option PatternTree → List (List ℕ) → Place

pub record Body : Type 0 where
  pub place : Place
  pub params : List Param
  pub stmts : List Stmt
  pub line : ℕ

abbrev pub body_in : Member → Option Body
body_in (member.Var name ty line) = None
body_in (member.Setup params stmts line) = Some (record { place = InSetup; params = params; stmts = stmts; line = line })
body_in (member.Run stmts line) = Some (record { place = InRun; params = []; stmts = stmts; line = line })
body_in (member.Method name params stmts line) = Some (record { place = InMethod name; params = params; stmts = stmts; line = line })
body_in (member.Receive message from labels stmts line) = Some (record { place = InHandler message from labels; params = []; stmts = stmts; line = line })

abbrev pub bodies : ClassTree → List Body
bodies c = filter_map body_in c.members

-- a variable with its type and line
pub record Variable : Type 0 where
  pub name : List ℕ
  pub ty : Ty
  pub line : ℕ

abbrev pub variable_in : Member → Option Variable
variable_in (member.Var name ty line) = Some (record { name = name; ty = ty; line = line })
variable_in _ = None

abbrev pub variables : ClassTree → List Variable
variables c = filter_map variable_in c.members

abbrev pub is_setup : Place → Bool
is_setup InSetup = true
is_setup _ = false

abbrev pub is_run : Place → Bool
is_run InRun = true
is_run _ = false

abbrev pub is_handler : Place → Bool
is_handler (InHandler message from labels) = true
is_handler _ = false

-- the name of a method, the labels of an `at`
abbrev pub method_name : Place → Option (List ℕ)
method_name (InMethod name) = Some name
method_name _ = None

abbrev pub labels_at : Place → List (List ℕ)
labels_at (InHandler message from labels) = labels
labels_at _ = []

abbrev pub is_method : List ℕ → Place → Bool
is_method name (InMethod other) = bytes_eq other name
is_method name _ = false

abbrev pub bodies_where : (Place → Bool) → ClassTree → List Body
bodies_where test c = filter (λ b. test b.place) (bodies c)

-- the first method of a name, the first class of a name, the first `setup` and `run` of a class
abbrev pub method_of : ClassTree → List ℕ → Option Body
method_of c name = find (λ b. is_method name b.place) (bodies c)

abbrev pub class_of : Tree → List ℕ → Option ClassTree
class_of t name = find (λ c. bytes_eq c.name name) t.classes

abbrev pub setup_of : ClassTree → Option Body
setup_of c = find (λ b. is_setup b.place) (bodies c)

abbrev pub run_of : ClassTree → Option Body
run_of c = find (λ b. is_run b.place) (bodies c)

-- the parameters and the statements of a body that may be missing
abbrev pub params_if : Option Body → List Param
params_if None = []
params_if (Some b) = b.params

abbrev pub stmts_if : Option Body → List Stmt
stmts_if None = []
stmts_if (Some b) = b.stmts
