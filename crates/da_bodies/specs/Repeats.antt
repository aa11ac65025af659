-- Declarations as code keeps them.
use Rattle.std.specs.Prelude.{ℕ, Bool, List, map, is_some, bytes_eq}
use Rattle.std.specs.BTreeMap.{BTreeMap, get_by}
use Rattle.std.specs.Borrow.{Bor}
use Rattle.std.specs.Cmp.Lexicographic.{slice_cmp}
use Rattle.std.specs.List.{list_any}
use Rattle.std.specs.Ordering.{nat_cmp}
use Rattle.da_lang.specs.ClassParts as parts
use Rattle.da_bodies.specs.declared.repeats.Declared.{Declared}

abbrev pub declared_of : Declared → parts.Declared
declared_of d = (d.name.now, d.line)

abbrev pub declared_in : List Declared → List parts.Declared
declared_in ds = map declared_of ds

-- a map has a name
abbrev pub is_seen : BTreeMap (Bor (List ℕ)) ℕ → List ℕ → Bool
is_seen seen name = is_some (get_by (λ k. slice_cmp nat_cmp name k.now) seen)

-- a name is among declarations
abbrev pub is_declared : List parts.Declared → List ℕ → Bool
is_declared ds name = list_any (λ d. bytes_eq d.0 name) ds
