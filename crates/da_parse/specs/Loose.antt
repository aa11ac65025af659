-- What reading gives where parameters may lack their types: the tree with `int` there, and the list of these places.
use Rattle.std.specs.Prelude.{◌≡◌, ℕ, ◌+◌, ◌==◌, Bool, false, if◌then◌else◌, List, [], ◌∷◌, ◌++◌, length, map, Option, Some, None, Result, Ok, Err}
use Rattle.da_lang.specs.declared.tree.ClassTree.{ClassTree}
use Rattle.da_lang.specs.declared.tree.Member.{Member}
use Rattle.da_lang.specs.declared.tree.Member.TheVariants as member
use Rattle.da_lang.specs.declared.tree.Param.{Param}
use Rattle.da_lang.specs.declared.tree.Tree.{Tree}
use Rattle.da_lang.specs.declared.ty.Ty.{Ty}
use Rattle.da_lang.specs.declared.ty.Ty.TheVariants as ty
use Rattle.da_lang.specs.Types.{parts_of}
use Rattle.da_parse.specs.declared.loose.LooseTree.{LooseTree}
use Rattle.da_parse.specs.declared.loose.OpenParam.{OpenParam}
use Rattle.da_parse.specs.declared.whole.ParseFault.{ParseFault}
use Rattle.da_parse.specs.declared.whole.ParseFault.TheVariants as fault

abbrev pub has_none : Option (List Ty) → Bool
has_none (Some parts) = length parts == 0
has_none None = false

-- the type is that of a parameter that has none
abbrev pub is_open : Ty → Bool
is_open x = has_none (parts_of x)

-- `int` where there is none
abbrev pub given_type : Ty → Ty
given_type x = if is_open x then ty.Int else x

abbrev pub given_param : Param → Param
given_param p = record { name = p.name; ty = given_type p.ty }

abbrev pub given_member : Member → Member
given_member (member.Setup params body line) = member.Setup (map given_param params) body line
given_member (member.Method name params body line) = member.Method name (map given_param params) body line
given_member x = x

abbrev pub given_class : ClassTree → ClassTree
given_class c = record c { members = map given_member c.members }

-- the tree with `int` in each place without a type
abbrev pub given_tree : Tree → Tree
given_tree t = record t { classes = map given_class t.classes }

-- the place of a parameter by those of its class and member
abbrev pub place_at : ℕ → ℕ → ℕ → OpenParam
place_at in_class in_member at = record { class = in_class; member = in_member; param = at }

-- the parameters without a type, from one place on
abbrev pub open_param : ℕ → ℕ → ℕ → Param → List OpenParam
open_param in_class in_member at p = if is_open p.ty then place_at in_class in_member at ∷ [] else []

abbrev pub open_params : ℕ → ℕ → ℕ → List Param → List OpenParam
open_params in_class in_member at [] = []
open_params in_class in_member at (p ∷ ps) = open_param in_class in_member at p ++ open_params in_class in_member (at + 1) ps

abbrev pub params_of : Member → List Param
params_of (member.Setup params body line) = params
params_of (member.Method name params body line) = params
params_of _ = []

abbrev pub open_members : ℕ → ℕ → List Member → List OpenParam
open_members in_class at [] = []
open_members in_class at (x ∷ xs) = open_params in_class at 0 (params_of x) ++ open_members in_class (at + 1) xs

abbrev pub open_classes : ℕ → List ClassTree → List OpenParam
open_classes at [] = []
open_classes at (c ∷ cs) = open_members at 0 c.members ++ open_classes (at + 1) cs

-- what is made of a tree in which places may lack their types
unfoldable pub loose_of : Tree → LooseTree
loose_of t = record { tree = given_tree t; untyped = open_classes 0 t.classes }

-- what is found is made of the tree that is given
abbrev pub IsMadeOf : LooseTree → Result Tree ParseFault → Type 0
IsMadeOf found (Ok tree) = found ≡ loose_of tree
IsMadeOf found (Err e) = ⊥

-- a call answers what is made of this, unless memory is refused
abbrev pub LooselyAnswers : Result LooseTree ParseFault → Result Tree ParseFault → Type 0
LooselyAnswers (Ok found) given = IsMadeOf found given
LooselyAnswers (Err fault.Memory) given = Unit {0}
LooselyAnswers (Err (fault.Syntax line)) given = given ≡ Err (fault.Syntax line)
LooselyAnswers (Err (fault.Deep line)) given = given ≡ Err (fault.Deep line)
