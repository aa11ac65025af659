-- Types that fit a table with equations, and are as is asked of its numbers.
use Rattle.std.specs.Prelude.{◌≡◌, ℕ, ◌<◌, ◌≤◌, Bool, true, List, length}
use Rattle.std.specs.List.{AllByRecursion}
use Rattle.da_lang.specs.declared.ty.Ty.{Ty}
use Rattle.da_lang.specs.Types.{ordered, is_flat}
use Rattle.type_table.specs.Draws.{Agree}
use Rattle.type_table.specs.Fits.{Meaning, Fits, IsTable, AreSame, AreWithin}
use Rattle.type_choice.specs.Choice.{is_added, is_recipient}
use Rattle.type_demands.specs.Demands.{is_single}
use Rattle.type_fitting.specs.declared.table.Kind.{Kind}
use Rattle.type_fitting.specs.declared.table.Kind.TheVariants as kind
use Rattle.type_fitting.specs.declared.table.Note.{Note}
use Rattle.type_fitting.specs.declared.table.Table.{Table}

-- a type is as is asked
abbrev pub is_as : Kind → Ty → Bool
is_as kind.Ordered = ordered
is_as kind.Adds = is_added
is_as kind.Single = is_single
is_as kind.Receives = is_recipient
is_as kind.Flat = is_flat

abbrev pub IsNoted : Meaning → Note → Type 0
IsNoted m note = is_as note.kind (m note.number) ≡ true

abbrev pub AreNoted : Meaning → List Note → Type 0
AreNoted m notes = AllByRecursion (IsNoted m) notes

-- the number lies in a table of this size
abbrev pub IsInside : ℕ → Note → Type 0
IsInside size note = note.number < size

-- all numbers lie in the table
pub record IsSound (table : Table) : Type 0 where
  pub forms : IsTable table.forms
  pub pairs : AreWithin (length table.forms) table.equations
  pub notes : AllByRecursion (IsInside (length table.forms)) table.notes

-- types fit, make the equations true, and are as is asked
pub record Holds (table : Table) (m : Meaning) : Type 0 where
  pub fits : Fits m table.forms
  pub same : AreSame m table.equations
  pub noted : AreNoted m table.notes

-- What the new table holds of, the old one holds of, and it is as was asked. What the old table holds of, and is as was asked,
-- goes on to something that the new one holds of.
pub record Puts (old new : Table) (asked : Meaning → Bool) : Type 0 where
  pub sound : IsSound new
  pub grows : length old.forms ≤ length new.forms
  pub gives : (m : Meaning) → Holds new m → Holds old m × (asked m ≡ true)
  pub takes : (m : Meaning) → Holds old m → asked m ≡ true → (n : Meaning) × Agree (length old.forms) m n × Holds new n
