-- Where an element is in an ascending list, and where one that is not there belongs.
use Rattle.std.specs.Prelude.{◌≡◌, ℕ, ◌<◌, ◌≤◌, List, length, insert, remove}
use Rattle.std.specs.declared.cmp.Ordering.{Ordering}
use Rattle.da_values.specs.Sets.{Has, set_insert, set_remove}

-- x is the element at this place
pub record IsAt {A : Type 0} (c : A → A → Ordering) (xs : List A) (x : A) (at : ℕ) : Type 0 where
  pub within : at < length xs
  pub there : Has xs x
  pub inserted : set_insert c xs x ≡ xs
  pub removed : set_remove c xs x ≡ remove xs at

-- x is not there, and comes before what is at this place and after what is below it
pub record IsBetween {A : Type 0} (c : A → A → Ordering) (xs : List A) (x : A) (at : ℕ) : Type 0 where
  pub within : at ≤ length xs
  pub absent : Has xs x → ⊥
  pub inserted : set_insert c xs x ≡ insert xs at x
  pub removed : set_remove c xs x ≡ xs
