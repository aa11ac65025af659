-- Types for a table, where some numbers are added and some are sent to.
use Rattle.std.specs.Prelude.{◌≡◌, ℕ, ◌<◌, ◌||◌, Bool, true, List, length}
use Rattle.std.specs.List.{AllByRecursion}
use Rattle.da_lang.specs.declared.ty.Ty.{Ty}
use Rattle.da_lang.specs.QueryTypes.{holds_of}
use Rattle.da_lang.specs.Types.{is_int, is_proc, is_set, element_of}
use Rattle.type_table.specs.declared.form.Form.{Form}
use Rattle.type_table.specs.Fits.{Meaning, Fits}
use Rattle.type_choice.specs.Lean.{IsLean}

-- operands of `+`, `-` and `*`
abbrev pub is_added : Ty → Bool
is_added ty = is_int ty || is_set ty

-- recipients
abbrev pub is_recipient : Ty → Bool
is_recipient ty = is_proc ty || holds_of (element_of ty) is_proc

-- the type of each number passes a test
abbrev pub AllAre : (Ty → Bool) → Meaning → List ℕ → Type 0
AllAre test m numbers = AllByRecursion (λ k. test (m k) ≡ true) numbers

-- each number lies in a table of this size
abbrev pub AreInside : ℕ → List ℕ → Type 0
AreInside size numbers = AllByRecursion (λ k. k < size) numbers

-- types fit, and some numbers are added, and some are sent to
pub record Meets (forms : List Form) (adds receives : List ℕ) (m : Meaning) : Type 0 where
  pub fits : Fits m forms
  pub added : AllAre is_added m adds
  pub received : AllAre is_recipient m receives

-- these types do so, and they are lean beside any that do
pub record Chosen (forms : List Form) (adds receives : List ℕ) (chosen : Meaning) : Type 0 where
  pub meets : Meets forms adds receives chosen
  pub lean : (m : Meaning) → Meets forms adds receives m → (k : ℕ) → k < length forms → IsLean (chosen k) (m k)
