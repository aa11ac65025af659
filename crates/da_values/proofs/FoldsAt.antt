-- Whether a value is narrow, its length and its nesting, one layer at a time.
use Rattle.std.specs.Prelude.{◌≡◌, ◌&&◌, ℕ, ◌+◌, Bool, true, List, [], ◌∷◌, map, length, sum, refl}
use Rattle.std.specs.List.{list_all}
use Rattle.std.proofs.Common.{◌∙◌, ap}
use Rattle.da_values.specs.declared.val.Val.{Val}
use Rattle.da_values.specs.declared.value.Value.{Value}
use Rattle.da_values.specs.declared.value.Value.TheVariants.{Int, Bool as Truth, Text, Proc, Tuple, Set}
use Rattle.da_values.specs.Layer.{fold-val_of}
use Rattle.da_values.specs.Lengths.{length_step, encoded_len}
use Rattle.da_values.specs.Narrow.{is_i64, narrow_step, is_narrow}
use Rattle.da_values.specs.Nesting.{deepest, nesting_step, nesting}
use Rattle.da_values.specs.Value.{val_of}

all-map : {A : Type 0} (p : A → Bool) (xs : List A) → list_all (λ b. b) (map p xs) ≡ list_all p xs
all-map p [] = refl
all-map p (x ∷ xs) = ap (λ b. p x && b) (all-map p xs)

abbrev pub narrow_at : Value → Bool
narrow_at (Int number) = is_i64 number
narrow_at (Tuple parts) = list_all is_narrow parts
narrow_at (Set elements) = list_all is_narrow elements
narrow_at _ = true

pub is_narrow_of : (v : Value) → is_narrow (val_of v) ≡ narrow_at v
is_narrow_of (Int number) = fold-val_of Bool narrow_step (Int number)
is_narrow_of (Truth truth) = fold-val_of Bool narrow_step (Truth truth)
is_narrow_of (Text text) = fold-val_of Bool narrow_step (Text text)
is_narrow_of (Proc process) = fold-val_of Bool narrow_step (Proc process)
is_narrow_of (Tuple parts) = fold-val_of Bool narrow_step (Tuple parts) ∙ all-map is_narrow parts
is_narrow_of (Set elements) = fold-val_of Bool narrow_step (Set elements) ∙ all-map is_narrow elements

abbrev pub lengths : List Val → ℕ
lengths values = sum (map encoded_len values)

abbrev pub encoded_len_at : Value → ℕ
encoded_len_at (Int number) = 9
encoded_len_at (Truth truth) = 2
encoded_len_at (Text bytes) = 3 + length bytes
encoded_len_at (Proc process) = 3
encoded_len_at (Tuple parts) = 2 + lengths parts
encoded_len_at (Set elements) = 5 + lengths elements

pub encoded_len_of : (v : Value) → encoded_len (val_of v) ≡ encoded_len_at v
encoded_len_of (Int number) = fold-val_of ℕ length_step (Int number)
encoded_len_of (Truth truth) = fold-val_of ℕ length_step (Truth truth)
encoded_len_of (Text text) = fold-val_of ℕ length_step (Text text)
encoded_len_of (Proc process) = fold-val_of ℕ length_step (Proc process)
encoded_len_of (Tuple parts) = fold-val_of ℕ length_step (Tuple parts)
encoded_len_of (Set elements) = fold-val_of ℕ length_step (Set elements)

abbrev pub depths : List Val → ℕ
depths values = deepest (map nesting values)

abbrev pub nesting_at : Value → ℕ
nesting_at (Tuple parts) = 1 + depths parts
nesting_at (Set elements) = 1 + depths elements
nesting_at _ = 0

pub nesting_of : (v : Value) → nesting (val_of v) ≡ nesting_at v
nesting_of (Int number) = fold-val_of ℕ nesting_step (Int number)
nesting_of (Truth truth) = fold-val_of ℕ nesting_step (Truth truth)
nesting_of (Text text) = fold-val_of ℕ nesting_step (Text text)
nesting_of (Proc process) = fold-val_of ℕ nesting_step (Proc process)
nesting_of (Tuple parts) = fold-val_of ℕ nesting_step (Tuple parts)
nesting_of (Set elements) = fold-val_of ℕ nesting_step (Set elements)
