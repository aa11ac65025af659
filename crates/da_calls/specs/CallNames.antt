-- Numbers of names.
use Rattle.std.specs.Prelude.{◌≡◌, ℕ, List, Option, Some, bytes_eq, if◌then◌else◌}
use Rattle.std.specs.BTreeMap.{get_by}
use Rattle.std.specs.Cmp.Lexicographic.{slice_cmp}
use Rattle.std.specs.Ordering.{nat_cmp}
use Rattle.da_calls.specs.declared.names.Numbers.{Numbers}

-- the number of a name
abbrev pub number_in : Numbers → List ℕ → Option ℕ
number_in numbers name = get_by (λ key. slice_cmp nat_cmp name key.items) numbers.map

-- one name got this number, and each other name finds what it found
pub record PutUnder (name : List ℕ) (number : ℕ) (old new : Numbers) : Type 0 where
  pub finds : (other : List ℕ) → number_in new other ≡ (if bytes_eq name other then Some number else number_in old other)
