-- What contracts see of a value that code keeps, and how much it weighs.
use Rattle.std.specs.Prelude.{ℕ, ◌+◌, List, [], ◌∷◌, map}
use Rattle.da_values.specs.declared.val.Val.{Val, out-Val}
use Rattle.da_values.specs.declared.val.Val.TheVariants as val
use Rattle.da_values.specs.declared.val.Val.TheOpen.{Val-F, Int, Bool, Text, Proc, Tuple, Set}
use Rattle.da_values.specs.declared.val.Val.TheFolds.{fold-Val}
use Rattle.da_values.specs.declared.value.Value.{Value}
use Rattle.da_values.specs.declared.value.Value.TheVariants as kept

-- the value that a kept value is
abbrev pub val_of : Value → Val
val_of (kept.Int number) = val.Int number
val_of (kept.Bool truth) = val.Bool truth
val_of (kept.Text text) = val.Text text
val_of (kept.Proc process) = val.Proc process
val_of (kept.Tuple parts) = val.Tuple parts
val_of (kept.Set elements) = val.Set elements

abbrev pub kept_as : Val-F Val → Value
kept_as (Int number) = kept.Int number
kept_as (Bool truth) = kept.Bool truth
kept_as (Text text) = kept.Text text
kept_as (Proc process) = kept.Proc process
kept_as (Tuple parts) = kept.Tuple parts
kept_as (Set elements) = kept.Set elements

-- the kept value that is a value
abbrev pub value_of : Val → Value
value_of v = kept_as (out-Val v)

abbrev pub vals : List Value → List Val
vals values = map val_of values

-- a list weighs one for each member, and what the members weigh
abbrev pub weight_of_list : List ℕ → ℕ
weight_of_list [] = 0
weight_of_list (n ∷ ns) = n + 1 + weight_of_list ns

abbrev pub weight_step : Val-F ℕ → ℕ
weight_step (Tuple ns) = weight_of_list ns + 1
weight_step (Set ns) = weight_of_list ns + 1
weight_step _ = 0

-- the weight of a value, which is more than that of each part
abbrev pub weight : Val → ℕ
weight = fold-Val ℕ weight_step

abbrev pub weights : List Val → ℕ
weights values = weight_of_list (map weight values)
