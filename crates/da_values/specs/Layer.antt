-- The outermost layer of a value, and what a definition by recursion over values gives at it.
use Rattle.std.specs.Prelude.{◌≡◌, ℕ, zero, suc, ◌+◌, ◌<◌, List, [], ◌∷◌, slice_index_or, length}
use Rattle.std.proofs.Common.{◌∙◌, ap, sym, arith}
use Rattle.da_values.specs.declared.val.Val.{Val, out-Val}
use Rattle.da_values.specs.declared.val.Val.TheVariants.{outs-Tuple, outs-Set, outs-Int, outs-Bool, outs-Text, outs-Proc}
use Rattle.da_values.specs.declared.val.Val.TheOpen.{Val-F, Int, Bool, Text, Proc, Tuple, Set}
use Rattle.da_values.specs.declared.val.Val.TheFolds.{fold-Val, fold_out-Val, map-Val}
use Rattle.da_values.specs.declared.value.Value.{Value}
use Rattle.da_values.specs.declared.value.Value.TheVariants as kept
use Rattle.da_values.specs.Value.{kept_as, val_of, value_of, vals, weight, weight_step, weights}

abbrev pub layer : Value → Val-F Val
layer (kept.Int number) = Int number
layer (kept.Bool truth) = Bool truth
layer (kept.Text text) = Text text
layer (kept.Proc process) = Proc process
layer (kept.Tuple parts) = Tuple parts
layer (kept.Set elements) = Set elements

pub out-val_of : (v : Value) → out-Val (val_of v) ≡ layer v
out-val_of (kept.Int number) = outs-Int number
out-val_of (kept.Bool truth) = outs-Bool truth
out-val_of (kept.Text text) = outs-Text text
out-val_of (kept.Proc process) = outs-Proc process
out-val_of (kept.Tuple parts) = outs-Tuple parts
out-val_of (kept.Set elements) = outs-Set elements

pub value_of-val_of : (v : Value) → value_of (val_of v) ≡ v
value_of-val_of (kept.Int number) = ap kept_as (outs-Int number)
value_of-val_of (kept.Bool truth) = ap kept_as (outs-Bool truth)
value_of-val_of (kept.Text text) = ap kept_as (outs-Text text)
value_of-val_of (kept.Proc process) = ap kept_as (outs-Proc process)
value_of-val_of (kept.Tuple parts) = ap kept_as (outs-Tuple parts)
value_of-val_of (kept.Set elements) = ap kept_as (outs-Set elements)

-- a kept value that is a value is the one that the value gives
pub value_of_same : (v : Value) (x : Val) → val_of v ≡ x → value_of x ≡ v
value_of_same v x same = ap value_of (sym same) ∙ value_of-val_of v

-- a definition by recursion at a value is its step at the value's layer
pub fold-val_of : (A : Type 0) (step : Val-F A → A) (v : Value) → fold-Val A step (val_of v) ≡ step (map-Val Val A (fold-Val A step) (layer v))
fold-val_of A step v =
    fold_out-Val A step (val_of v) ∙ ap (λ inner. step (map-Val Val A (fold-Val A step) inner)) (out-val_of v)

abbrev pub weight_at : Value → ℕ
weight_at (kept.Tuple parts) = weights parts + 1
weight_at (kept.Set elements) = weights elements + 1
weight_at _ = 0

pub weight_of : (v : Value) → weight (val_of v) ≡ weight_at v
weight_of (kept.Int number) = fold-val_of ℕ weight_step (kept.Int number)
weight_of (kept.Bool truth) = fold-val_of ℕ weight_step (kept.Bool truth)
weight_of (kept.Text text) = fold-val_of ℕ weight_step (kept.Text text)
weight_of (kept.Proc process) = fold-val_of ℕ weight_step (kept.Proc process)
weight_of (kept.Tuple parts) = fold-val_of ℕ weight_step (kept.Tuple parts)
weight_of (kept.Set elements) = fold-val_of ℕ weight_step (kept.Set elements)

-- a member at a place weighs less than the list
pub weight_part : (values : List Value) (k : ℕ) (d : Value) → k < length values → weight (val_of (slice_index_or values k d)) < weights (vals values)
weight_part [] k d inside = omega (arith, inside)
weight_part (v ∷ vs) zero d inside = omega arith
weight_part (v ∷ vs) (suc k) d inside = omega (arith, weight_part vs k d (omega (arith, inside)))
