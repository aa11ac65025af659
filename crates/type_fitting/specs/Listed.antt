-- A table that stands for demands.
use Rattle.std.specs.Prelude.{◌≡◌, ℕ, ◌≤◌, Bool, true, List, length}
use Rattle.type_table.specs.Draws.{Agree}
use Rattle.type_table.specs.Fits.{Meaning}
use Rattle.type_demands.specs.declared.demand.Demand.{Demand}
use Rattle.type_demands.specs.Demands.{met, all_met}
use Rattle.type_fitting.specs.declared.table.Table.{Table}
use Rattle.type_fitting.specs.Notes.{IsSound, Holds}

-- nothing more is demanded of slots in use
abbrev pub always : ℕ → Bool
always slot = true

abbrev pub is_met : Demand → Meaning → Bool
is_met demand m = met m always demand

-- With what the table holds of all is met. Where all is met, the types of the first so many numbers go on to what it holds of.
pub record Listed (count : ℕ) (demands : List Demand) (table : Table) : Type 0 where
  pub sound : IsSound table
  pub counts : count ≤ length table.forms
  pub gives : (m : Meaning) → Holds table m → all_met m always demands ≡ true
  pub takes : (m : Meaning) → all_met m always demands ≡ true → (n : Meaning) × Agree count m n × Holds table n
