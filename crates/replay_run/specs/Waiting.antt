-- Text that waits before it is written.
use Rattle.std.specs.Prelude.{◌≡◌, ℕ, List, ◌++◌, Option}
use Rattle.da_outside.specs.Outside.{Appends}

-- of the whole text a sink gained the front, and the rest waits
pub record Waits (before now : Option (List ℕ)) (rest whole : List ℕ) : Type 0 where
  pub front : List ℕ
  pub is : whole ≡ front ++ rest
  pub taken : Appends before now front
