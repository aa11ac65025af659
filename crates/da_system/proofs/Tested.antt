-- What an answer tells of which it was tested whether it is an error.
use Rattle.std.proofs.Common.{◌≡◌, refl, sym, ◌∙◌, Bool, true, false}
use Rattle.std.specs.Prelude.{if◌then◌else◌, Result, Ok, Err, OnErr, OnOk, is_err, is_ok}
use Rattle.std.proofs.lemmas.Bool.{false≢true}

module _ {T E : Type 0} (r : Result T E) (b : Bool) (is : b ≡ is_err r) where
  pub when_ok : (P : Type 0) → b ≡ false → OnOk r P → P
  when_ok P never holds = by r is holds
    where
      by : (x : Result T E) → b ≡ is_err x → OnOk x P → P
      by (Ok x) same here = here
      by (Err e) same here = absurd (false≢true (sym never ∙ same))

  pub when_err : (P : Type 0) → b ≡ true → OnErr r P → P
  when_err P failed holds = by r is holds
    where
      by : (x : Result T E) → b ≡ is_err x → OnErr x P → P
      by (Ok x) same here = absurd (false≢true (sym same ∙ failed))
      by (Err e) same here = here

  pub chosen_ok : {A : Type 0} (x y : A) → b ≡ false → (if is_ok r then x else y) ≡ x
  chosen_ok x y never = by r is
    where
      by : (z : Result T E) → b ≡ is_err z → (if is_ok z then x else y) ≡ x
      by (Ok z) same = refl
      by (Err e) same = absurd (false≢true (sym never ∙ same))

-- what holds where an answer is no error, from what else holds there
pub on_ok : {T E : Type 0} {P Q : Type 0} (r : Result T E) → (P → Q) → OnOk r P → OnOk r Q
on_ok (Ok x) more holds = more holds
on_ok (Err e) more holds = tt
