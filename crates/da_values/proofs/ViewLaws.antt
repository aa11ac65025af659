-- A value and the kept value that it is are one, and what each kind of value shows.
use Rattle.std.specs.Prelude.{◌≡◌, ℕ, ℤ, Bool, List, [], ◌∷◌, map, refl}
use Rattle.std.proofs.Common.{◌∙◌, ap, sym}
use Rattle.da_values.specs.declared.val.Val.{Val, out-Val, roll-Val, roll-out-Val}
use Rattle.da_values.specs.declared.val.Val.TheVariants as val
use Rattle.da_values.specs.declared.val.Val.TheVariants.{outs-Tuple, outs-Set, outs-Int, outs-Bool, outs-Text, outs-Proc, rolls-Tuple, rolls-Set, rolls-Int, rolls-Bool, rolls-Text, rolls-Proc}
use Rattle.da_values.specs.declared.val.Val.TheOpen.{Val-F, Int, Bool as Truth, Text, Proc, Tuple, Set}
use Rattle.da_values.specs.declared.value.Value.{Value}
use Rattle.da_values.specs.Layer.{layer, out-val_of, value_of-val_of}
use Rattle.da_values.specs.Value.{kept_as, val_of, value_of, vals}
use Rattle.da_values.specs.Views.{int_in, truth_in, text_in, proc_in, parts_in, elements_in, int_of, truth_of, text_of, proc_of, parts_of, elements_of}

val_of-kept_as : (inner : Val-F Val) → val_of (kept_as inner) ≡ roll-Val inner
val_of-kept_as (Int number) = sym (rolls-Int number)
val_of-kept_as (Truth truth) = sym (rolls-Bool truth)
val_of-kept_as (Text bytes) = sym (rolls-Text bytes)
val_of-kept_as (Proc process) = sym (rolls-Proc process)
val_of-kept_as (Tuple parts) = sym (rolls-Tuple parts)
val_of-kept_as (Set elements) = sym (rolls-Set elements)

pub val_of-value_of : (x : Val) → val_of (value_of x) ≡ x
val_of-value_of x = val_of-kept_as (out-Val x) ∙ roll-out-Val x

-- two kept values that are one value are one
pub val_of_injective : (v w : Value) → val_of v ≡ val_of w → v ≡ w
val_of_injective v w e = sym (value_of-val_of v) ∙ ap value_of e ∙ value_of-val_of w

pub vals-value_of : (xs : List Val) → vals (map value_of xs) ≡ xs
vals-value_of [] = refl
vals-value_of (x ∷ xs) = ap (λ z. z ∷ vals (map value_of xs)) (val_of-value_of x) ∙ ap (λ zs. x ∷ zs) (vals-value_of xs)

-- what each kind shows
pub int_of-Int : (number : ℤ) → int_of (val.Int number) ≡ number
int_of-Int number = ap int_in (outs-Int number)

pub truth_of-Bool : (truth : Bool) → truth_of (val.Bool truth) ≡ truth
truth_of-Bool truth = ap truth_in (outs-Bool truth)

pub text_of-Text : (bytes : List ℕ) → text_of (val.Text bytes) ≡ bytes
text_of-Text bytes = ap text_in (outs-Text bytes)

pub proc_of-Proc : (process : ℕ) → proc_of (val.Proc process) ≡ process
proc_of-Proc process = ap proc_in (outs-Proc process)

pub parts_of-Tuple : (parts : List Val) → parts_of (val.Tuple parts) ≡ parts
parts_of-Tuple parts = ap parts_in (outs-Tuple parts)

pub elements_of-Set : (elements : List Val) → elements_of (val.Set elements) ≡ elements
elements_of-Set elements = ap elements_in (outs-Set elements)

-- each view of a kept value is that of its layer
pub int_of-val_of : (v : Value) → int_of (val_of v) ≡ int_in (layer v)
int_of-val_of v = ap int_in (out-val_of v)

pub truth_of-val_of : (v : Value) → truth_of (val_of v) ≡ truth_in (layer v)
truth_of-val_of v = ap truth_in (out-val_of v)

pub text_of-val_of : (v : Value) → text_of (val_of v) ≡ text_in (layer v)
text_of-val_of v = ap text_in (out-val_of v)

pub proc_of-val_of : (v : Value) → proc_of (val_of v) ≡ proc_in (layer v)
proc_of-val_of v = ap proc_in (out-val_of v)

pub parts_of-val_of : (v : Value) → parts_of (val_of v) ≡ parts_in (layer v)
parts_of-val_of v = ap parts_in (out-val_of v)

pub elements_of-val_of : (v : Value) → elements_of (val_of v) ≡ elements_in (layer v)
elements_of-val_of v = ap elements_in (out-val_of v)
