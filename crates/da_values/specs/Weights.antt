-- A part weighs less than what holds it, and a value is no deeper than it weighs.
use Rattle.std.specs.Prelude.{◌≡◌, ℕ, ◌+◌, ◌≤◌, List, [], ◌∷◌}
use Rattle.std.proofs.Common.{◌∙◌, ap, arith}
use denote.Param.Weighed.{most}
use Rattle.da_values.specs.declared.val.Val.{Val}
use Rattle.da_values.specs.declared.val.Val.TheVariants as val
use Rattle.da_values.specs.declared.val.Val.TheVariants.{outs-Tuple, outs-Set}
use Rattle.da_values.specs.declared.val.Val.TheFolds.{fold_out-Val, map-Val}
use Rattle.da_values.specs.declared.value.Value.{Value}
use Rattle.da_values.specs.declared.value.Value.TheVariants as kept
use Rattle.da_values.specs.declared.value.Row.TheDeep.{deep-Value}
use Rattle.da_values.specs.Value.{val_of, vals, weight_step, weight, weights}

pub weight-Tuple : (parts : List Val) → weight (val.Tuple parts) ≡ weights parts + 1
weight-Tuple parts =
    fold_out-Val ℕ weight_step (val.Tuple parts) ∙ ap (λ layer. weight_step (map-Val Val ℕ weight layer)) (outs-Tuple parts)

pub weight-Set : (elements : List Val) → weight (val.Set elements) ≡ weights elements + 1
weight-Set elements =
    fold_out-Val ℕ weight_step (val.Set elements) ∙ ap (λ layer. weight_step (map-Val Val ℕ weight layer)) (outs-Set elements)

deep_le-weight : (v : Value) → deep-Value v ≤ weight (val_of v)
deep_le-weight (kept.Tuple parts) = omega (arith, weight-Tuple parts)
deep_le-weight (kept.Set elements) = omega (arith, weight-Set elements)
deep_le-weight (kept.Int number) = omega arith
deep_le-weight (kept.Bool truth) = omega arith
deep_le-weight (kept.Text text) = omega arith
deep_le-weight (kept.Proc process) = omega arith

pub most_le-weights : (values : List Value) → most deep-Value values ≤ weights (vals values)
most_le-weights [] = omega arith
most_le-weights (v ∷ vs) = omega (arith, deep_le-weight v, most_le-weights vs)
