-- The form that is told of a number, where the way of equal numbers ends.
use Rattle.std.specs.Prelude.{◌≡◌, ℕ, zero, suc, ◌<◌, ◌⊎◌, Bool, true, false, List, length, Option, Some, None, slice_get}
use Rattle.da_lang.specs.declared.ty.Ty.{Ty}
use Rattle.da_lang.specs.declared.ty.Ty.TheVariants as t
use Rattle.type_table.specs.declared.form.Form.{Form}
use Rattle.type_table.specs.declared.form.Form.TheVariants as f
use Rattle.type_table.specs.Fits.{Meaning, Fits, IsTable}
use Rattle.type_choice.specs.Choice.{AllAre, is_added, is_recipient}

-- where the way goes on
abbrev pub next_of : (ℕ → ℕ) → ℕ → Option Form → ℕ
next_of go k (Some (f.Same number)) = go number
next_of go k _ = k

-- the number that is reached in so many steps
abbrev pub root_in : ℕ → List Form → ℕ → ℕ
root_in zero forms k = k
root_in (suc steps) forms k = next_of (root_in steps forms) k (slice_get forms k)

abbrev pub root_of : List Form → ℕ → ℕ
root_of forms k = root_in k forms k

-- forms of numbers that may be added
abbrev pub may_add : Form → Bool
may_add f.Open = true
may_add f.Int = true
may_add (f.Set element) = true
may_add _ = false

-- forms of numbers that may be sent to
abbrev pub may_receive : Form → Bool
may_receive f.Open = true
may_receive f.Proc = true
may_receive (f.Set element) = true
may_receive _ = false

abbrev pub test_at : (Form → Bool) → Option Form → Bool
test_at test None = false
test_at test (Some form) = test form

-- whether the form of a number passes a test
abbrev pub passes : (Form → Bool) → List Form → ℕ → Bool
passes test forms k = test_at test (slice_get forms (root_of forms k))

-- no number of these stands where this one stands
abbrev pub IsApart : List Form → List ℕ → ℕ → Type 0
IsApart forms numbers root = (i k : ℕ) → slice_get numbers i ≡ Some k → root_of forms k ≡ root → ⊥

abbrev pub set_of_proc : Ty
set_of_proc = t.Set t.Proc

-- one number stands for processes, and one for sets of processes
pub record HasBoth (forms : List Form) (proc set : ℕ) : Type 0 where
  pub proc_in : proc < length forms
  pub set_in : set < length forms
  pub is_proc : (m : Meaning) → Fits m forms → m proc ≡ t.Proc
  pub is_set : (m : Meaning) → Fits m forms → m set ≡ set_of_proc

-- an equation that is so wherever a number is sent to, and that makes it a set of processes
pub record Forces (forms : List Form) (adds : List ℕ) (number first second : ℕ) : Type 0 where
  pub first_in : first < length forms
  pub second_in : second < length forms
  pub holds : (m : Meaning) → Fits m forms → AllAre is_added m adds → is_recipient (m number) ≡ true → m first ≡ m second
  pub tells : (m : Meaning) → Fits m forms → m first ≡ m second → m number ≡ set_of_proc

-- nothing is forced: it is told that it is no set, or nothing is told and none of these is the same
pub record IsEasy (forms : List Form) (adds : List ℕ) (number : ℕ) : Type 0 where
  pub no_set : (element : ℕ) → slice_get forms (root_of forms number) ≡ Some (f.Set element) → ⊥
  pub apart : slice_get forms (root_of forms number) ≡ Some f.Open → IsApart forms adds (root_of forms number)

-- a set of processes, whatever fits
abbrev pub IsTold : List Form → ℕ → Type 0
IsTold forms number = (m : Meaning) → Fits m forms → m number ≡ set_of_proc

-- each number that is sent to is told, or nothing is forced
abbrev pub IsReady : List Form → List ℕ → List ℕ → Type 0
IsReady forms adds receives = (i k : ℕ) → slice_get receives i ≡ Some k → IsTold forms k ⊎ IsEasy forms adds k

-- a table with equations that are so wherever the numbers are added and sent to
pub record Forced (old : List Form) (adds receives : List ℕ) (new : List Form) : Type 0 where
  pub table : IsTable new
  pub size : length new ≡ length old
  pub gives : (m : Meaning) → Fits m new → Fits m old
  pub keeps : (m : Meaning) → Fits m old → AllAre is_added m adds → AllAre is_recipient m receives → Fits m new
