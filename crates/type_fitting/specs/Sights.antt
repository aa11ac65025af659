-- What is looked at in the types of a table once they are chosen.
use Rattle.std.specs.Prelude.{◌≡◌, ℕ, ◌<◌, Bool, true, false, if◌then◌else◌, List, [], ◌∷◌, length, Some, slice_get}
use Rattle.std.specs.List.{list_all}
use Rattle.da_lang.specs.declared.ty.Ty.{Ty}
use Rattle.da_lang.specs.Types.{ordered, is_flat}
use Rattle.type_table.specs.declared.form.Form.{Form}
use Rattle.type_table.specs.Fits.{Meaning}
use Rattle.type_demands.specs.Demands.{is_single}
use Rattle.type_choice.specs.Lean.{IsLean}
use Rattle.type_choice.specs.Looks.{is_short}
use Rattle.type_fitting.specs.declared.table.Kind.{Kind}
use Rattle.type_fitting.specs.declared.table.Kind.TheVariants as kind
use Rattle.type_fitting.specs.declared.table.Note.{Note}
use Rattle.type_fitting.specs.declared.table.Table.{Table}
use Rattle.type_fitting.specs.Declarable.{IsDeclarable}
use Rattle.type_fitting.specs.Notes.{Holds}

-- the choice is made for what is added and sent to
abbrev pub is_seen : Kind → Ty → Bool
is_seen kind.Ordered = ordered
is_seen kind.Adds = λ ty. true
is_seen kind.Single = is_single
is_seen kind.Receives = λ ty. true
is_seen kind.Flat = is_flat

abbrev pub seen_at : Meaning → Note → Bool
seen_at m note = is_seen note.kind (m note.number)

-- the types of the first so many numbers are spelled by few tokens, may be declared
abbrev pub AreShort : ℕ → Meaning → Type 0
AreShort count m = (k : ℕ) → k < count → is_short (m k) ≡ true

abbrev pub MayDeclare : ℕ → Meaning → Type 0
MayDeclare count m = (k : ℕ) → k < count → IsDeclarable (m k)

-- these are the types of the first so many numbers
pub record AreFirst (count : ℕ) (m : Meaning) (types : List Ty) : Type 0 where
  pub size : length types ≡ count
  pub each : (k : ℕ) → k < count → slice_get types k ≡ Some (m k)

abbrev pub adds : Kind → Bool
adds kind.Adds = true
adds _ = false

abbrev pub receives : Kind → Bool
receives kind.Receives = true
receives _ = false

-- the numbers of which such is asked
abbrev pub numbers_where : (Kind → Bool) → List Note → List ℕ
numbers_where test [] = []
numbers_where test (note ∷ notes) = if test note.kind then note.number ∷ numbers_where test notes else numbers_where test notes

-- no types that may be declared are such, for the first so many numbers
abbrev pub IsRefused : ℕ → Table → Type 0
IsRefused count table = (m : Meaning) → Holds table m → MayDeclare count m → ⊥

-- these are the types of the first so many numbers in some that are such, and may be declared; they are lean beside any that are such
pub record IsSolved (count : ℕ) (table : Table) (types : List Ty) : Type 0 where
  pub meaning : Meaning
  pub holds : Holds table meaning
  pub may : MayDeclare count meaning
  pub first : AreFirst count meaning types
  pub lean : (m : Meaning) → Holds table m → (k : ℕ) → k < count → IsLean (meaning k) (m k)

-- a table without equations
abbrev pub plain : List Form → List Note → Table
plain forms notes = record { forms = forms; equations = []; notes = notes }

-- Whether chosen types pass: they are as is asked, and the first so many may be declared.
abbrev pub IsBlocked : ℕ → Meaning → List Note → Type 0
IsBlocked count chosen notes = list_all (seen_at chosen) notes ≡ true → MayDeclare count chosen → ⊥

pub record IsPassed (count : ℕ) (chosen : Meaning) (notes : List Note) (types : List Ty) : Type 0 where
  pub seen : list_all (seen_at chosen) notes ≡ true
  pub may : MayDeclare count chosen
  pub first : AreFirst count chosen types
