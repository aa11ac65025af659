-- The names in scope as code keeps them: the entries, the innermost last, and a map from names to what they stand for.
use Rattle.std.specs.Prelude.{◌≡◌, ℕ, List, [], ◌∷◌, map, reverse, Option}
use Rattle.std.specs.BTreeMap.{BTreeMap, get_by}
use Rattle.std.specs.Cmp.Lexicographic.{slice_cmp}
use Rattle.std.specs.Ordering.{nat_cmp}
use Rattle.std.specs.Borrow.{Bor}
use Rattle.da_lang.specs.ExprNames as meaning
use Rattle.da_lang.specs.Scopes.{Scope, look}
use Rattle.da_bodies.specs.declared.scope.Entry.{Entry}
use Rattle.da_bodies.specs.declared.scope.Role.{Role}
use Rattle.da_bodies.specs.declared.scope.Role.TheVariants as role

abbrev pub role_of : Role → meaning.Role
role_of role.ClassVariable = meaning.ClassVariable
role_of role.Local = meaning.Local
role_of role.QueryVariable = meaning.QueryVariable
role_of role.Made = meaning.Made

-- what the map says of a name
abbrev pub role_in : BTreeMap (Bor (List ℕ)) Role → List ℕ → Option Role
role_in roles name = get_by (λ k. slice_cmp nat_cmp name k.now) roles

-- the entries as a scope, the innermost first in both
abbrev pub inner_first : List Entry → Scope Role
inner_first entries = map (λ e. (e.name.now, e.role)) entries

abbrev pub scope_of : List Entry → Scope meaning.Role
scope_of entries = map (λ e. (e.name.now, role_of e.role)) (reverse entries)

-- each entry tells what its name stood for outside it
abbrev pub Undoes : List Entry → Type 0
Undoes [] = Unit {0}
Undoes (e ∷ outer) = (e.before ≡ look (inner_first outer) e.name.now) × Undoes outer

-- the map and the entries say the same
pub record IsIndexed (roles : BTreeMap (Bor (List ℕ)) Role) (entries : List Entry) : Type 0 where
  pub same : (q : List ℕ) → role_in roles q ≡ look (inner_first (reverse entries)) q
  pub undoes : Undoes (reverse entries)
