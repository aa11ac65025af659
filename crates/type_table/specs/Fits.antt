-- Which types fit a table of unknown types.
use Rattle.std.specs.Prelude.{◌≡◌, ℕ, ◌<◌, List, [], ◌∷◌, map, length, Some, slice_get}
use Rattle.std.specs.List.{AllByRecursion}
use Rattle.da_lang.specs.declared.ty.Ty.{Ty}
use Rattle.da_lang.specs.declared.ty.Ty.TheVariants as t
use Rattle.type_table.specs.declared.form.Form.{Form}
use Rattle.type_table.specs.declared.form.Form.TheVariants as f

-- the type for which each number stands
abbrev pub Meaning : Type 0
Meaning = ℕ → Ty

-- a type has a form
abbrev pub HasForm : Meaning → Form → Ty → Type 0
HasForm m f.Open ty = Unit {0}
HasForm m (f.Same number) ty = ty ≡ m number
HasForm m f.Int ty = ty ≡ t.Int
HasForm m f.Bool ty = ty ≡ t.Bool
HasForm m f.Text ty = ty ≡ t.Text
HasForm m f.Proc ty = ty ≡ t.Proc
HasForm m (f.Tuple parts) ty = ty ≡ t.Tuple (map m parts)
HasForm m (f.Set element) ty = ty ≡ t.Set (m element)

-- the type of each number has the form that the table tells
abbrev pub Fits : Meaning → List Form → Type 0
Fits m forms = (k : ℕ) (form : Form) → slice_get forms k ≡ Some form → HasForm m form (m k)

-- the numbers in the form of a number lie in the table, and that of `Same` is smaller
abbrev pub IsWithin : ℕ → ℕ → Form → Type 0
IsWithin size at (f.Same number) = number < at
IsWithin size at (f.Tuple parts) = AllByRecursion (λ part. part < size) parts
IsWithin size at (f.Set element) = element < size
IsWithin size at _ = Unit {0}

abbrev pub IsTable : List Form → Type 0
IsTable forms = (k : ℕ) (form : Form) → slice_get forms k ≡ Some form → IsWithin (length forms) k form

-- each pair of numbers stands for one type
abbrev pub AreSame : Meaning → List (ℕ × ℕ) → Type 0
AreSame m [] = Unit {0}
AreSame m (pair ∷ pairs) = (m pair.0 ≡ m pair.1) × AreSame m pairs

-- each number of these pairs lies in a table of this size
abbrev pub AreWithin : ℕ → List (ℕ × ℕ) → Type 0
AreWithin size [] = Unit {0}
AreWithin size (pair ∷ pairs) = (pair.0 < size) × (pair.1 < size) × AreWithin size pairs
