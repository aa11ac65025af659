-- When two tables with equations say the same.
use Rattle.std.specs.Prelude.{ℕ, List}
use Rattle.type_table.specs.declared.form.Form.{Form}
use Rattle.type_table.specs.Fits.{Meaning, Fits, AreSame}

-- the types that fit one table and its equations are those that fit the other and its equations
pub record Alike (old : List Form) (asked : List (ℕ × ℕ)) (new : List Form) (left : List (ℕ × ℕ)) : Type 0 where
  pub keeps : (m : Meaning) → Fits m old → AreSame m asked → Fits m new × AreSame m left
  pub gives : (m : Meaning) → Fits m new → AreSame m left → Fits m old × AreSame m asked

-- no types fit
abbrev pub Clashes : List Form → List (ℕ × ℕ) → Type 0
Clashes forms asked = (m : Meaning) → Fits m forms → AreSame m asked → ⊥
