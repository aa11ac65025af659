-- What a kept value shows, by its kind.
use Rattle.std.proofs.Common.{◌≡◌, true, false, ◌&&◌, List, [], Ok, refl, ap, ◌∙◌}
use Rattle.da_values.specs.declared.val.Val.{Val, out-Val}
use Rattle.da_values.specs.declared.val.Val.TheOpen.{Val-F, Int, Bool as Truth, Text, Proc, Tuple, Set}
use Rattle.da_values.specs.declared.val.Val.TheVariants as val
use Rattle.da_values.specs.declared.value.Value.{Value}
use Rattle.da_values.specs.Layer.{layer, out-val_of, value_of-val_of}
use Rattle.da_values.specs.Value.{val_of, value_of}
use Rattle.da_values.specs.Views.{int_of, truth_of, elements_of, int_in, truth_in, elements_in}
use Rattle.da_values.proofs.ViewLaws.{int_of-val_of, truth_of-val_of, elements_of-val_of, proc_of-Proc}
use Rattle.da_lang.specs.Arithmetic.{arithmetic, of_layers, of_numbers, of_sets}
use Rattle.da_lang.specs.declared.tree.ArithOp.{ArithOp}
use Rattle.da_lang.specs.Evaluation.{asked, asked_layer}
use Rattle.da_lang.specs.Turns.{recipients, recipients_in}
use Rattle.da_machine.specs.Acts.{is_set, is_set_in, top}

pub recipients-val_of : (v : Value) → recipients (val_of v) ≡ recipients_in (layer v)
recipients-val_of v = ap recipients_in (out-val_of v)

pub asked-val_of : (v : Value) → asked (val_of v) ≡ asked_layer (layer v) (val_of v)
asked-val_of v = ap (λ (x : Val-F Val). asked_layer x (val_of v)) (out-val_of v)

pub is_set-val_of : (v : Value) → is_set (val_of v) ≡ is_set_in (layer v)
is_set-val_of v = ap is_set_in (out-val_of v)

pub ruleset viewing = (int_of-val_of, truth_of-val_of, elements_of-val_of, recipients-val_of, asked-val_of, proc_of-Proc, is_set-val_of)

-- a kept value is kept as itself
pub kept_again : (v : Value) → value_of (val_of v) ≡ v
kept_again v = value_of-val_of v

-- nothing is not true
pub none_true : (vs : List Val) → vs ≡ [] → truth_of (top vs) ≡ false
none_true vs none = ap (λ l. truth_of (top l)) none ∙ ap truth_in (val.outs-Proc 0)

-- AN OPERATION GOES BY WHETHER BOTH ARE SETS

sets_in : (op : ArithOp) (x y : Val-F Val) → (is_set_in x && is_set_in y) ≡ true → of_layers op x y ≡ Ok (val.Set (of_sets op (elements_in x) (elements_in y)))
sets_in op (Set xs) (Set ys) both = refl
sets_in op (Set xs) (Int n) both = absurd cc
sets_in op (Set xs) (Truth b) both = absurd cc
sets_in op (Set xs) (Text t) both = absurd cc
sets_in op (Set xs) (Proc p) both = absurd cc
sets_in op (Set xs) (Tuple ps) both = absurd cc
sets_in op (Int n) y both = absurd cc
sets_in op (Truth b) y both = absurd cc
sets_in op (Text t) y both = absurd cc
sets_in op (Proc p) y both = absurd cc
sets_in op (Tuple ps) y both = absurd cc

numbers_in : (op : ArithOp) (x y : Val-F Val) → (is_set_in x && is_set_in y) ≡ false → of_layers op x y ≡ of_numbers op (int_in x) (int_in y)
numbers_in op (Set xs) (Set ys) other = absurd cc
numbers_in op (Set xs) (Int n) other = refl
numbers_in op (Set xs) (Truth b) other = refl
numbers_in op (Set xs) (Text t) other = refl
numbers_in op (Set xs) (Proc p) other = refl
numbers_in op (Set xs) (Tuple ps) other = refl
numbers_in op (Int n) y other = refl
numbers_in op (Truth b) y other = refl
numbers_in op (Text t) y other = refl
numbers_in op (Proc p) y other = refl
numbers_in op (Tuple ps) y other = refl

pub arithmetic_of_sets : (op : ArithOp) (v w : Val) → (is_set v && is_set w) ≡ true → arithmetic op v w ≡ Ok (val.Set (of_sets op (elements_of v) (elements_of w)))
arithmetic_of_sets op v w both = sets_in op (out-Val v) (out-Val w) both

pub arithmetic_of_numbers : (op : ArithOp) (v w : Val) → (is_set v && is_set w) ≡ false → arithmetic op v w ≡ of_numbers op (int_of v) (int_of w)
arithmetic_of_numbers op v w other = numbers_in op (out-Val v) (out-Val w) other
