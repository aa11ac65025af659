-- How many bytes a value takes in a packet, one equation for each kind.
use Rattle.std.specs.Prelude.{◌≡◌, refl, ℕ, zero, suc, ◌+◌, ◌*◌, ℤ, pos, ◌+ℤ◌, Bool, List, map, length, sum}
use Rattle.std.proofs.Common.{◌∙◌, ap, arith}
use Rattle.std.proofs.lemmas.List.Sums.{sum_by-cons}
use Rattle.da_values.specs.declared.val.Val.{Val, out-Val}
use Rattle.da_values.specs.declared.val.Val.TheVariants as val
use Rattle.da_values.specs.declared.val.Val.TheVariants.{outs-Int, outs-Bool, outs-Text, outs-Proc, outs-Tuple, outs-Set}
use Rattle.da_values.specs.declared.val.Val.TheOpen.{Val-F}
use Rattle.da_values.specs.declared.val.Val.TheFolds.{fold_out-Val, map-Val}
use Rattle.da_values.specs.Lengths.{length_step, encoded_len}
use Rattle.da_lang.specs.Arithmetic.{numbers_from}

len_at : (x : Val) (layer : Val-F Val) → out-Val x ≡ layer → encoded_len x ≡ length_step (map-Val Val ℕ encoded_len layer)
len_at x layer is = fold_out-Val ℕ length_step x ∙ ap (λ inner. length_step (map-Val Val ℕ encoded_len inner)) is

pub encoded_len-Int : (z : ℤ) → encoded_len (val.Int z) ≡ 9
encoded_len-Int z = len_at _ _ (outs-Int z)

pub encoded_len-Bool : (b : Bool) → encoded_len (val.Bool b) ≡ 2
encoded_len-Bool b = len_at _ _ (outs-Bool b)

pub encoded_len-Text : (bytes : List ℕ) → encoded_len (val.Text bytes) ≡ 3 + length bytes
encoded_len-Text bytes = len_at _ _ (outs-Text bytes)

pub encoded_len-Proc : (p : ℕ) → encoded_len (val.Proc p) ≡ 3
encoded_len-Proc p = len_at _ _ (outs-Proc p)

pub encoded_len-Tuple : (xs : List Val) → encoded_len (val.Tuple xs) ≡ 2 + sum (map encoded_len xs)
encoded_len-Tuple xs = len_at _ _ (outs-Tuple xs)

pub encoded_len-Set : (xs : List Val) → encoded_len (val.Set xs) ≡ 5 + sum (map encoded_len xs)
encoded_len-Set xs = len_at _ _ (outs-Set xs)

-- each number of a range takes nine
pub sum-numbers_from : (n : ℕ) (a : ℤ) → sum (map encoded_len (numbers_from a n)) ≡ 9 * n
sum-numbers_from zero a = refl
sum-numbers_from (suc n) a =
    let others : List Val = numbers_from (a +ℤ pos 1) n in
    let first : sum (map encoded_len (numbers_from a (suc n))) ≡ encoded_len (val.Int a) + sum (map encoded_len others) = sum_by-cons (λ k. k) (encoded_len (val.Int a)) (map encoded_len others) in
    first ∙ ap (λ k. k + sum (map encoded_len others)) (encoded_len-Int a) ∙ ap (λ k. 9 + k) (sum-numbers_from n (a +ℤ pos 1)) ∙ omega arith

pub ruleset measuring = (encoded_len-Int, encoded_len-Bool, encoded_len-Text, encoded_len-Proc, encoded_len-Tuple, encoded_len-Set)
