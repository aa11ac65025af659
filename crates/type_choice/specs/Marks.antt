-- Which numbers that are sent to were made sets of processes, and which numbers are filled.
use Rattle.std.specs.Prelude.{◌≡◌, ℕ, ◌<◌, ◌⊎◌, Bool, true, List, length, Some, slice_get}
use Rattle.type_table.specs.declared.form.Form.{Form}
use Rattle.type_table.specs.declared.form.Form.TheVariants as f
use Rattle.type_table.specs.Settling.{is_marked}
use Rattle.type_choice.specs.Roots.{Forced, IsTold, IsEasy}

-- those that are marked are told
abbrev pub AreTold : List Form → List ℕ → List Bool → Type 0
AreTold forms receives marks = (i k : ℕ) → slice_get receives i ≡ Some k → is_marked marks i ≡ true → IsTold forms k

pub record Forcing (old : List Form) (adds receives : List ℕ) (new : List Form) (marks : List Bool) : Type 0 where
  pub forced : Forced old adds receives new
  pub count : length marks ≡ length receives
  pub told : AreTold new receives marks

-- below this place, each is marked or nothing is forced
abbrev pub AreDone : List Form → List ℕ → List ℕ → List Bool → ℕ → Type 0
AreDone forms adds receives marks size = (i k : ℕ) → i < size → slice_get receives i ≡ Some k → (is_marked marks i ≡ true) ⊎ IsEasy forms adds k

-- nothing was told of some of these numbers, and now they are processes
pub record FilledAt (old : List Form) (numbers : List ℕ) (new : List Form) (k : ℕ) : Type 0 where
  pub before : slice_get old k ≡ Some f.Open
  pub after : slice_get new k ≡ Some f.Proc
  pub place : ℕ
  pub is : slice_get numbers place ≡ Some k

pub record Filled (old : List Form) (numbers : List ℕ) (count : ℕ) (new : List Form) : Type 0 where
  pub size : length new ≡ length old
  pub each : (k : ℕ) → (slice_get new k ≡ slice_get old k) ⊎ FilledAt old numbers new k
  pub done : (i k : ℕ) → i < count → slice_get numbers i ≡ Some k → slice_get old k ≡ Some f.Open → slice_get new k ≡ Some f.Proc
