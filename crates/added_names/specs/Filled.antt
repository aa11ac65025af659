-- A program with the declarations that it lacks, by a list of types, one for each: for the parts of the added tags, and
-- then class by class for its added variables and its open parameters.
use Rattle.std.specs.Prelude.{ℕ, ◌+◌, ◌==◌, ◌&&◌, Bool, false, if◌then◌else◌, List, [], ◌∷◌, ◌++◌, map, length, drop, take, sum, Option}
use Rattle.da_lang.specs.declared.tree.ClassTree.{ClassTree}
use Rattle.da_lang.specs.declared.tree.Member.{Member}
use Rattle.da_lang.specs.declared.tree.Member.TheVariants as member
use Rattle.da_lang.specs.declared.tree.MessageDecl.{MessageDecl}
use Rattle.da_lang.specs.declared.tree.Param.{Param}
use Rattle.da_lang.specs.declared.tree.PatternTree.{PatternTree}
use Rattle.da_lang.specs.declared.tree.Stmt.{Stmt}
use Rattle.da_lang.specs.declared.tree.Tree.{Tree}
use Rattle.da_lang.specs.declared.ty.Ty.{Ty}
use Rattle.da_lang.specs.declared.ty.Ty.TheVariants as t
use Rattle.added_names.specs.declared.added.OpenPlace.{OpenPlace}
use Rattle.added_names.specs.declared.filled.Rest.{Rest}
use Rattle.added_names.specs.Changes.{Changes, added_variables}
use Rattle.added_names.specs.StmtTags.{added_tags}
use Rattle.added_names.specs.Tags.{Tags}

-- a tree, and the places of the parameters that have no type, in the order of the text
pub record Loose : Type 0 where
  pub tree : Tree
  pub untyped : List OpenPlace

-- what is left to hand out: the places that are still open, and the types
pub record Left : Type 0 where
  pub places : List OpenPlace
  pub types : List Ty

abbrev pub left_of : Rest → Left
left_of rest = record { places = rest.places.now; types = rest.types.now }

-- the next type; `int` where none is left
unfoldable pub next_type : List Ty → Ty
next_type [] = t.Int
next_type (ty ∷ types) = ty

-- things in turn, each at its place and with what those before it left
unfoldable pub filled_from : {A : Type 0} → (ℕ → A → Left → A) → (ℕ → A → Left → Left) → ℕ → List A → Left → List A
filled_from fill leaves at [] left = []
filled_from fill leaves at (x ∷ xs) left = fill at x left ∷ filled_from fill leaves (at + 1) xs (leaves at x left)

unfoldable pub left_from : {A : Type 0} → (ℕ → A → Left → Left) → ℕ → List A → Left → Left
left_from leaves at [] left = left
left_from leaves at (x ∷ xs) left = left_from leaves (at + 1) xs (leaves at x left)

-- the next open place is this one
unfoldable pub is_next : ℕ → ℕ → ℕ → List OpenPlace → Bool
is_next class member at [] = false
is_next class member at (o ∷ os) = o.class == class && o.member == member && o.param == at

-- the type of a parameter, and what is left after it, where it is open and where it is not
unfoldable pub type_filled : Bool → Ty → Left → Ty
type_filled untyped ty left = if untyped then next_type left.types else ty

unfoldable pub after_param : Bool → Left → Left
after_param untyped left = if untyped then record { places = drop 1 left.places; types = drop 1 left.types } else left

unfoldable pub param_filled : ℕ → ℕ → ℕ → Param → Left → Param
param_filled class member at p left = record { name = p.name; ty = type_filled (is_next class member at left.places) p.ty left }

unfoldable pub param_left : ℕ → ℕ → ℕ → Param → Left → Left
param_left class member at p left = after_param (is_next class member at left.places) left

abbrev pub params_filled : ℕ → ℕ → List Param → Left → List Param
params_filled class member = filled_from (param_filled class member) (param_left class member) 0

abbrev pub params_left : ℕ → ℕ → List Param → Left → Left
params_left class member = left_from (param_left class member) 0

abbrev pub handler : PatternTree → Option PatternTree → List (List ℕ) → List Stmt → ℕ → Member
handler message from labels body line = member.Receive message from labels body line

unfoldable pub member_filled : ℕ → ℕ → Member → Left → Member
member_filled class at (member.Var name ty line) left = member.Var name ty line
member_filled class at (member.Setup params body line) left = member.Setup (params_filled class at params left) body line
member_filled class at (member.Run body line) left = member.Run body line
member_filled class at (member.Method name params body line) left = member.Method name (params_filled class at params left) body line
member_filled class at (member.Receive message from labels body line) left = member.Receive message from labels body line

unfoldable pub member_left : ℕ → ℕ → Member → Left → Left
member_left class at (member.Var name ty line) left = left
member_left class at (member.Setup params body line) left = params_left class at params left
member_left class at (member.Run body line) left = left
member_left class at (member.Method name params body line) left = params_left class at params left
member_left class at (member.Receive message from labels body line) left = left

-- a line for each added variable
unfoldable pub variable_lines : Changes → List Ty → List Member
variable_lines [] types = []
variable_lines (v ∷ vs) types = member.Var v.name (next_type types) v.line ∷ variable_lines vs (drop 1 types)

unfoldable pub types_after_variables : Changes → List Ty → List Ty
types_after_variables [] types = types
types_after_variables (v ∷ vs) types = types_after_variables vs (drop 1 types)

abbrev pub after_variables : Changes → Left → Left
after_variables vs left = record { places = left.places; types = types_after_variables vs left.types }

unfoldable pub class_filled : ℕ → ClassTree → Left → ClassTree
class_filled at c left = record {
  name = c.name;
  members = variable_lines (added_variables c) left.types ++ filled_from (member_filled at) (member_left at) 0 c.members (after_variables (added_variables c) left);
  line = c.line;
}

unfoldable pub class_left : ℕ → ClassTree → Left → Left
class_left at c left = left_from (member_left at) 0 c.members (after_variables (added_variables c) left)

-- a line for each added tag
unfoldable pub message_lines : Tags → List Ty → List MessageDecl
message_lines [] types = []
message_lines (x ∷ xs) types = record { tag = x.tag; parts = take x.parts types; line = x.line } ∷ message_lines xs (drop x.parts types)

unfoldable pub types_after_tags : Tags → List Ty → List Ty
types_after_tags [] types = types
types_after_tags (x ∷ xs) types = types_after_tags xs (drop x.parts types)

abbrev pub after_tags : Tags → Left → Left
after_tags xs left = record { places = left.places; types = types_after_tags xs left.types }

-- the program with these types
unfoldable pub filled : Loose → List Ty → Tree
filled l types = record {
  kind = l.tree.kind;
  messages = l.tree.messages ++ message_lines (added_tags l.tree) types;
  classes = filled_from class_filled class_left 0 l.tree.classes (after_tags (added_tags l.tree) (record { places = l.untyped; types = types }));
  main = l.tree.main;
}

-- how many types it takes
unfoldable pub type_count : Loose → ℕ
type_count l = sum (map (λ x. x.parts) (added_tags l.tree)) + sum (map (λ c. length (added_variables c)) l.tree.classes) + length l.untyped
