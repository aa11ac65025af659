-- Clauses on a call that may fail.
use Rattle.std.specs.Prelude.{◌≡◌, ℕ, ◌<◌, Result, Ok, Err, IfOk, IsErrOf, OnErr, OnOk}
use Rattle.std.proofs.Common.{arith}
use Rattle.da_outside.specs.declared.outside.Trouble.{Trouble}
use Rattle.da_outside.specs.declared.outside.Trouble.TheVariants.{Failed}
use Rattle.da_outside.specs.Outside.{HasCause}

module _ {A E : Type 0} where
  pub on_err : (result : Result A E) (P : Type 0) → P → OnErr result P
  on_err (Ok x) P holds = tt
  on_err (Err e) P holds = holds

  pub on_err_one : (result : Result A E) (P Q : Type 0) → (P → Q) → OnErr result P → OnErr result Q
  on_err_one (Ok x) P Q weaker holds = tt
  on_err_one (Err e) P Q weaker holds = weaker holds

  pub on_ok_both : (result : Result A E) (P Q R : Type 0) → (P → Q → R) → OnOk result P → OnOk result Q → OnOk result R
  on_ok_both (Ok x) P Q R joined first second = joined first second
  on_ok_both (Err e) P Q R joined first second = tt

  pub if_ok_both : (result : Result A E) (P Q R : A → Type 0) → ((x : A) → P x → Q x → R x) → IfOk result P → IfOk result Q → IfOk result R
  if_ok_both (Ok x) P Q R joined first second = joined x first second
  if_ok_both (Err e) P Q R joined first second = tt

-- where it did not fail, the count of faults stayed
pub no_rise : {A : Type 0} (before now : ℕ) (x : A) → HasCause before now (IsErrOf (Ok x) Failed) → now ≡ before
no_rise {A} before now x cause =
    let none : before < now → ⊥ = λ below. absurd (let bad : ◌≡◌ {A = Result A Trouble} (Ok x) (Err Failed) = cause.rises below in cc) in
    omega (arith, none, cause.later)
