-- What a table and its equations say once a type was put into them.
use Rattle.std.specs.Prelude.{◌≡◌, ℕ, zero, suc, ◌<◌, ◌≤◌, List, [], ◌∷◌, length, map, Option, Some, slice_get, true}
use Rattle.std.specs.List.{AllByRecursion}
use Rattle.da_lang.specs.declared.ty.Ty.{Ty}
use Rattle.type_table.specs.declared.form.Form.{Form}
use Rattle.type_table.specs.declared.form.Form.TheVariants as f
use Rattle.type_table.specs.Fits.{Meaning, Fits, HasForm, IsTable, AreSame, AreWithin}
use Rattle.type_table.specs.Joins.{is_open}

-- the types of the numbers below this one are the same
abbrev pub Agree : ℕ → Meaning → Meaning → Type 0
Agree size m n = (k : ℕ) → k < size → n k ≡ m k

-- What fits the new table fits the old one, and reads there what was asked for. What fits the old one, and has what was asked
-- for, goes on to something that fits the new one and reads it there.
pub record Draws {A : Type 0} (old : List Form) (olds : List (ℕ × ℕ)) (new : List Form) (news : List (ℕ × ℕ)) (asked : Meaning → Option A) (read : Meaning → A) : Type 0 where
  pub table : IsTable new
  pub pairs : AreWithin (length new) news
  pub grows : length old ≤ length new
  pub gives : (m : Meaning) → Fits m new → AreSame m news → Fits m old × AreSame m olds × (asked m ≡ Some (read m))
  pub takes : (m : Meaning) (x : A) → Fits m old → AreSame m olds → asked m ≡ Some x → (n : Meaning) × Agree (length old) m n × Fits n new × AreSame n news × (read n ≡ x)

-- a number stands for the type that was asked for
pub record Numbered (old : List Form) (olds : List (ℕ × ℕ)) (new : List Form) (news : List (ℕ × ℕ)) (asked : Meaning → Option Ty) (number : ℕ) : Type 0 where
  pub within : number < length new
  pub draws : Draws old olds new news asked (λ m. m number)

pub record AreNumbered (old : List Form) (olds : List (ℕ × ℕ)) (new : List Form) (news : List (ℕ × ℕ)) (asked : Meaning → Option (List Ty)) (numbers : List ℕ) : Type 0 where
  pub within : AllByRecursion (λ k. k < length new) numbers
  pub draws : Draws old olds new news asked (λ m. map m numbers)

-- a number has this form, besides what was said before
pub record Told (old : List Form) (olds : List (ℕ × ℕ)) (new : List Form) (news : List (ℕ × ℕ)) (whole : ℕ) (form : Form) : Type 0 where
  pub table : IsTable new
  pub pairs : AreWithin (length new) news
  pub grows : length old ≤ length new
  pub gives : (m : Meaning) → Fits m new → AreSame m news → Fits m old × AreSame m olds × HasForm m form (m whole)
  pub takes : (m : Meaning) → Fits m old → AreSame m olds → HasForm m form (m whole) → (n : Meaning) × Agree (length old) m n × Fits n new × AreSame n news

-- so many numbers, from this one on
abbrev pub numbers_from : ℕ → ℕ → List ℕ
numbers_from first zero = []
numbers_from first (suc count) = first ∷ numbers_from (suc first) count

-- no type is asked for
abbrev pub Never : (Meaning → Option Ty) → Type 0
Never asked = (m : Meaning) (ty : Ty) → asked m ≡ Some ty → ⊥

-- a number is told nothing
abbrev pub IsOpenAt : List Form → ℕ → Type 0
IsOpenAt forms k = (form : Form) × (slice_get forms k ≡ Some form) × (is_open form ≡ true)

-- a number is told to be a tuple of so many parts, with this one at the place
abbrev pub HasPart : List Form → ℕ → ℕ → ℕ → ℕ → Type 0
HasPart forms whole at count part = (parts : List ℕ) × (slice_get forms whole ≡ Some (f.Tuple parts)) × (length parts ≡ count) × (slice_get parts at ≡ Some part)
