-- Steps of solving an equation.
use Rattle.std.specs.Prelude.{◌≡◌, ℕ, ◌+◌, ◌<◌, ◌⊎◌, List, [], length, None, Some, slice_get}
use Rattle.type_table.specs.declared.form.Form.{Form}
use Rattle.type_table.specs.declared.form.Form.TheVariants as f
use Rattle.type_table.specs.Fits.{Meaning, Fits, IsTable, AreWithin}
use Rattle.type_table.specs.Joins.{kept, link}
use Rattle.type_table.specs.Solves.{Alike}
use Rattle.type_table.specs.Weight.{form_weight, weight}

-- a number that stands for the same type was found, and the table says the same
pub record Found (old : List Form) (number : ℕ) (new : List Form) (found : ℕ) : Type 0 where
  pub table : IsTable new
  pub size : length new ≡ length old
  pub weighs : weight new ≡ weight old
  pub alike : Alike old [] new []
  pub same : (m : Meaning) → Fits m new → m number ≡ m found
  pub roots : (k : ℕ) (form : Form) → slice_get old k ≡ Some form → link form ≡ None → slice_get new k ≡ Some form

-- the form of one number is that it is the same as a smaller one, whose form is what is left of both
pub record Linked (old : List Form) (low high : ℕ) (new : List Form) : Type 0 where
  pub size : length new ≡ length old
  pub at_high : slice_get new high ≡ Some (f.Same low)
  pub at_low : (x y : Form) → slice_get old low ≡ Some x → slice_get old high ≡ Some y → slice_get new low ≡ Some (kept x y)
  pub others : (k : ℕ) → (k ≡ low → ⊥) → (k ≡ high → ⊥) → slice_get new k ≡ slice_get old k
  pub weighs : (x y : Form) → slice_get old low ≡ Some x → slice_get old high ≡ Some y → weight new + form_weight x + form_weight y ≡ weight old + form_weight (kept x y)

-- the same two numbers
abbrev pub InOrder : ℕ → ℕ → ℕ → ℕ → Type 0
InOrder first second low high = ((low ≡ first) × (high ≡ second)) ⊎ ((low ≡ second) × (high ≡ first))

-- the first equation was put into the table, and less is left
pub record Equated (old : List Form) (asked : List (ℕ × ℕ)) (new : List Form) (left : List (ℕ × ℕ)) : Type 0 where
  pub within : AreWithin (length new) left
  pub less : weight new + length left < weight old + length asked
  pub alike : Alike old asked new left
