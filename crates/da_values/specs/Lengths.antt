-- How many bytes a value takes in a packet: one for its kind, and then its content.
use Rattle.std.specs.Prelude.{ℕ, ◌+◌, length, sum}
use Rattle.da_values.specs.declared.val.Val.{Val}
use Rattle.da_values.specs.declared.val.Val.TheOpen.{Val-F, Int, Bool, Text, Proc, Tuple, Set}
use Rattle.da_values.specs.declared.val.Val.TheFolds.{fold-Val}

-- an integer has 8 bytes, a truth value 1, a process 2; a text has its length in 2, a tuple its count in 1, a set its
-- count in 4
abbrev pub length_step : Val-F ℕ → ℕ
length_step (Int number) = 1 + 8
length_step (Bool truth) = 1 + 1
length_step (Text bytes) = 1 + 2 + length bytes
length_step (Proc process) = 1 + 2
length_step (Tuple lengths) = 1 + 1 + sum lengths
length_step (Set lengths) = 1 + 4 + sum lengths

abbrev pub encoded_len : Val → ℕ
encoded_len = fold-Val ℕ length_step
