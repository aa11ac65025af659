-- The map of the methods of a class that code keeps: from names to places among its members.
use Rattle.std.specs.Prelude.{◌≡◌, ℕ, suc, Bool, false, if◌then◌else◌, List, [], ◌∷◌, Option, Some, None, option_map, bytes_eq}
use Rattle.std.specs.BTreeMap.{BTreeMap, get_by}
use Rattle.std.specs.Borrow.{Bor}
use Rattle.std.specs.Cmp.Lexicographic.{slice_cmp}
use Rattle.std.specs.Ordering.{nat_cmp}
use Rattle.da_lang.specs.declared.tree.ClassTree.{ClassTree}
use Rattle.da_lang.specs.declared.tree.Member.{Member}
use Rattle.da_lang.specs.declared.tree.Member.TheVariants as member

-- the place that a map has at a name
abbrev pub place_in : BTreeMap (Bor (List ℕ)) ℕ → List ℕ → Option ℕ
place_in places name = get_by (λ k. slice_cmp nat_cmp name k.now) places

-- a method of this name
abbrev pub is_named : List ℕ → Member → Bool
is_named name (member.Method other params stmts line) = bytes_eq other name
is_named name _ = false

-- the place of the first method of a name among members, counted from 0
abbrev pub method_place : List Member → List ℕ → Option ℕ
method_place [] name = None
method_place (m ∷ ms) name = if is_named name m then Some 0 else option_map suc (method_place ms name)

-- the map has the place of the first method of each name of a class
abbrev pub HasPlaces : BTreeMap (Bor (List ℕ)) ℕ → ClassTree → Type 0
HasPlaces places c = (name : List ℕ) → place_in places name ≡ method_place c.members name
