-- An order of a table, in which each number comes after those that it is made of.
use Rattle.std.specs.Prelude.{◌≡◌, ℕ, ◌<◌, List, [], ◌∷◌, length, Option, Some, None, slice_get}
use Rattle.type_table.specs.declared.form.Form.{Form}
use Rattle.type_table.specs.declared.form.Form.TheVariants as f
use Rattle.type_choice.specs.Choice.{AreInside}

-- the numbers that a form is made of
abbrev pub needs : Form → List ℕ
needs (f.Same number) = number ∷ []
needs (f.Tuple parts) = parts
needs (f.Set element) = element ∷ []
needs _ = []

abbrev pub needs_in : Option Form → List ℕ
needs_in None = []
needs_in (Some form) = needs form

abbrev pub needs_at : List Form → ℕ → List ℕ
needs_at forms k = needs_in (slice_get forms k)

abbrev pub IsIn : {A : Type 0} → A → List A → Type 0
IsIn x xs = (i : ℕ) × (slice_get xs i ≡ Some x)

abbrev pub StandsBefore : ℕ → List ℕ → ℕ → Type 0
StandsBefore place numbers number = (i : ℕ) × (i < place) × (slice_get numbers i ≡ Some number)

-- what a number is made of stands before it
abbrev pub ComeAfter : List Form → List ℕ → Type 0
ComeAfter forms order = (i k j part : ℕ) → slice_get order i ≡ Some k → slice_get (needs_at forms k) j ≡ Some part → StandsBefore i order part

pub record IsOrder (forms : List Form) (order : List ℕ) : Type 0 where
  pub inside : AreInside (length forms) order
  pub after : ComeAfter forms order
  pub whole : (k : ℕ) → k < length forms → IsIn k order
