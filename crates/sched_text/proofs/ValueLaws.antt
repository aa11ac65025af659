-- What no line can be, where no value was read after its numbers.
use Rattle.std.proofs.Common.{◌≡◌, refl, sym, ◌∙◌, subst, ℕ, List}
use Rattle.std.specs.Prelude.{IfOk, MatchResult, Result, Ok, Err, IsErrAnd, IsErrOf}
use Rattle.da_values.specs.declared.read.ValueFault.{ValueFault}
use Rattle.da_values.specs.declared.read.ValueFault.TheVariants.{Unread, Memory}
use Rattle.da_values.specs.declared.val.Val.{Val}
use Rattle.da_values.specs.declared.value.Value.{Value}
use Rattle.da_values.specs.Reading.{IsTextOf}
use Rattle.da_values.specs.Value.{val_of}
use Rattle.da_values.proofs.ViewLaws.{val_of_injective}
use Rattle.sched_text.specs.Reading.{Stops}
use Rattle.sched_text.specs.ActionReading.{IsOneText, number_then, value_after}
use Rattle.sched_text.specs.ActionLine.{Fits, IsShown}
use Rattle.sched_text.proofs.FieldLaws.{after_process}

-- a value that these bytes are is read
abbrev pub Reads : List ℕ → Result Value ValueFault → Type 0
Reads bytes result = (x : Val) → IsShown x → bytes ≡ value_after x → MatchResult result (λ v. val_of v ≡ x) (λ fault. fault ≡ Memory)

unread : (fault : ValueFault) → fault ≡ Unread → fault ≡ Memory → ⊥
unread fault one other = let clash : ◌≡◌ {A = ValueFault} Unread Memory = sym one ∙ other in absurd (cc)

same_fault : {T : Type 0} (r : Result T ValueFault) (fault : ValueFault) → IsErrAnd r (λ e. e ≡ fault) → IsErrOf r Unread → fault ≡ Unread
same_fault (Ok x) fault is wanted = absurd is
same_fault (Err e) fault is wanted = let same : e ≡ Unread = cc in sym is ∙ same

-- no value stands where none was read
pub lacks_value : {T : Type 0} (bytes : List ℕ) (q : Result Value ValueFault) (r : Result T ValueFault) (fault : ValueFault) → Reads bytes q → q ≡ Err fault → IsErrAnd r (λ e. e ≡ fault) → IsErrOf r Unread
    → (x : Val) → IsShown x → bytes ≡ value_after x → ⊥
lacks_value bytes q r fault reads was handed wanted x shown is =
    unread fault (same_fault r fault handed wanted) (subst (λ a. MatchResult a (λ v. val_of v ≡ x) (λ e. e ≡ Memory)) was (reads x shown is))

-- the value that was read is the one that stands there
pub is_value : (bytes : List ℕ) (q : Result Value ValueFault) (v w : Value) → Reads bytes q → q ≡ Ok v → IsShown (val_of w) → bytes ≡ value_after (val_of w) → v ≡ w
is_value bytes q v w reads was shown is =
    val_of_injective v w (subst (λ a. MatchResult a (λ v. val_of v ≡ val_of w) (λ e. e ≡ Memory)) was (reads (val_of w) shown is))

-- the text of the value that was read is that of no other
pub one_text : (text : List ℕ) (q : Result Value ValueFault) → IfOk q (λ v. IsTextOf text (val_of v)) → ((x : Val) → IsTextOf text x → MatchResult q (λ v. val_of v ≡ x) (λ fault. fault ≡ Memory))
    → IfOk q (λ v. IsOneText (val_of v))
one_text text (Ok v) read only = λ y shown same. sym (only y record { value = shown.0; nested = shown.1; is = read.is ∙ sym same })
one_text text (Err fault) read only = tt

-- after a process
pub lacks_output : (p : ℕ) (bytes rest : List ℕ) → Fits 16 p → Stops rest → bytes ≡ number_then p rest → ((x : Val) → IsShown x → rest ≡ value_after x → ⊥)
    → (q : ℕ) (x : Val) → Fits 16 q → IsShown x → bytes ≡ number_then q (value_after x) → ⊥
lacks_output p bytes rest fits stops is lacks q x fits_q shown same = lacks x shown (after_process p q bytes rest (value_after x) fits stops is fits_q refl same)
