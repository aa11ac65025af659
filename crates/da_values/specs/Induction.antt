-- What holds of a value where it holds of its parts holds of every value.
use Rattle.std.specs.Prelude.{ℕ, ℤ, Bool, List, [], ◌∷◌, map}
use Rattle.std.specs.List.{AllByRecursion}
use Rattle.std.proofs.Common.{subst, sym}
use Rattle.da_values.specs.declared.val.Val.{Val, out-Val, roll-Val}
use Rattle.da_values.specs.declared.val.Val.TheVariants as val
use Rattle.da_values.specs.declared.val.Val.TheVariants.{outs-Tuple, outs-Set, outs-Int, outs-Bool, outs-Text, outs-Proc, rolls-Tuple, rolls-Set, rolls-Int, rolls-Bool, rolls-Text, rolls-Proc}
use Rattle.da_values.specs.declared.val.Val.TheOpen.{Val-F, Int, Bool as Truth, Text, Proc, Tuple, Set}
use Rattle.da_values.specs.declared.val.Val.TheFolds.{ind-Val, map-Val}

-- values of which P holds, as pairs, and the values alone
abbrev bare : {P : Val → Type 0} → List ((x : Val) × P x) → List Val
bare pairs = map (λ pair. pair.0) pairs

all_of-bare : (P : Val → Type 0) (pairs : List ((x : Val) × P x)) → AllByRecursion P (bare pairs)
all_of-bare P [] = tt
all_of-bare P (pair ∷ pairs) = (pair.1, all_of-bare P pairs)

module _ (P : Val → Type 0) (int : (number : ℤ) → P (val.Int number)) (truth : (b : Bool) → P (val.Bool b)) (text : (bytes : List ℕ) → P (val.Text bytes)) (proc : (process : ℕ) → P (val.Proc process)) (tuple : (parts : List Val) → AllByRecursion P parts → P (val.Tuple parts)) (set : (elements : List Val) → AllByRecursion P elements → P (val.Set elements)) where
  step : (layer : Val-F ((x : Val) × P x)) → P (roll-Val (map-Val ((x : Val) × P x) Val (λ pair. pair.0) layer))
  step (Int number) = subst P (sym (rolls-Int number)) (int number)
  step (Truth b) = subst P (sym (rolls-Bool b)) (truth b)
  step (Text bytes) = subst P (sym (rolls-Text bytes)) (text bytes)
  step (Proc process) = subst P (sym (rolls-Proc process)) (proc process)
  step (Tuple pairs) = subst P (sym (rolls-Tuple (bare pairs))) (tuple (bare pairs) (all_of-bare P pairs))
  step (Set pairs) = subst P (sym (rolls-Set (bare pairs))) (set (bare pairs) (all_of-bare P pairs))

  -- one case a kind
  pub val_induction : (x : Val) → P x
  val_induction = ind-Val P (λ x layer is. subst (λ z. P (roll-Val z)) is (step layer))

-- what holds of the parts of one layer
abbrev pub Parts : (Val → Type 0) → Val-F Val → Type 0
Parts P (Tuple parts) = AllByRecursion P parts
Parts P (Set elements) = AllByRecursion P elements
Parts P _ = Unit {0}

-- one case for all kinds
pub layer_induction : (P : Val → Type 0) → ((x : Val) → Parts P (out-Val x) → P x) → (x : Val) → P x
layer_induction P step =
    val_induction P
    (λ number. step (val.Int number) (rw (outs-Int number) tt))
    (λ b. step (val.Bool b) (rw (outs-Bool b) tt))
    (λ bytes. step (val.Text bytes) (rw (outs-Text bytes) tt))
    (λ process. step (val.Proc process) (rw (outs-Proc process) tt))
    (λ parts each. step (val.Tuple parts) (rw (outs-Tuple parts) each))
    (λ elements each. step (val.Set elements) (rw (outs-Set elements) each))
