-- The bytes of a kept value, one layer at a time.
use Rattle.std.specs.Prelude.{◌≡◌, ℕ, ℤ, Bool, List, [], ◌∷◌, ◌++◌, codes, length, map}
use Rattle.std.specs.Int.{w16, w32, w64, cast_unsigned, to_be_bytes}
use Rattle.std.proofs.Common.{◌∙◌, ap}
use Rattle.std.proofs.lemmas.List.{length-map}
use Rattle.da_values.specs.declared.val.Val.{Val}
use Rattle.da_values.specs.declared.val.Val.TheVariants as val
use Rattle.da_values.specs.declared.value.Value.{Value}
use Rattle.da_values.specs.declared.value.Value.TheVariants.{Int, Bool as Truth, Text, Proc, Tuple, Set}
use Rattle.da_values.specs.Layer.{fold-val_of}
use Rattle.da_values.specs.Value.{val_of}
use Rattle.msg_codec.specs.Packets.{bytes_step, joined, truth_byte, value_bytes}

abbrev pub bytes_at : Value → List ℕ
bytes_at (Int number) = codes "i" ++ to_be_bytes w64 (cast_unsigned w64 number)
bytes_at (Truth truth) = codes "b" ++ truth_byte truth ∷ []
bytes_at (Text text) = codes "s" ++ to_be_bytes w16 (length text) ++ text
bytes_at (Proc process) = codes "p" ++ to_be_bytes w16 process
bytes_at (Tuple parts) = codes "t" ++ length parts ∷ joined (map value_bytes parts)
bytes_at (Set elements) = codes "S" ++ to_be_bytes w32 (length elements) ++ joined (map value_bytes elements)

pub value_bytes_of : (v : Value) → value_bytes (val_of v) ≡ bytes_at v
value_bytes_of (Int number) = fold-val_of (List ℕ) bytes_step (Int number)
value_bytes_of (Truth truth) = fold-val_of (List ℕ) bytes_step (Truth truth)
value_bytes_of (Text text) = fold-val_of (List ℕ) bytes_step (Text text)
value_bytes_of (Proc process) = fold-val_of (List ℕ) bytes_step (Proc process)
value_bytes_of (Tuple parts) =
    fold-val_of (List ℕ) bytes_step (Tuple parts) ∙ ap (λ n. codes "t" ++ n ∷ joined (map value_bytes parts)) (length-map parts value_bytes)
value_bytes_of (Set elements) =
    fold-val_of (List ℕ) bytes_step (Set elements) ∙ ap (λ n. codes "S" ++ to_be_bytes w32 n ++ joined (map value_bytes elements)) (length-map elements value_bytes)

-- one equation a kind
pub bytes_of_integer : (number : ℤ) → value_bytes (val.Int number) ≡ codes "i" ++ to_be_bytes w64 (cast_unsigned w64 number)
bytes_of_integer number = value_bytes_of (Int number)

pub bytes_of_truth : (truth : Bool) → value_bytes (val.Bool truth) ≡ codes "b" ++ truth_byte truth ∷ []
bytes_of_truth truth = value_bytes_of (Truth truth)

pub bytes_of_text : (text : List ℕ) → value_bytes (val.Text text) ≡ codes "s" ++ to_be_bytes w16 (length text) ++ text
bytes_of_text text = value_bytes_of (Text text)

pub bytes_of_process : (process : ℕ) → value_bytes (val.Proc process) ≡ codes "p" ++ to_be_bytes w16 process
bytes_of_process process = value_bytes_of (Proc process)

pub bytes_of_tuple : (parts : List Val) → value_bytes (val.Tuple parts) ≡ codes "t" ++ length parts ∷ joined (map value_bytes parts)
bytes_of_tuple parts = value_bytes_of (Tuple parts)

pub bytes_of_set : (elements : List Val) → value_bytes (val.Set elements) ≡ codes "S" ++ to_be_bytes w32 (length elements) ++ joined (map value_bytes elements)
bytes_of_set elements = value_bytes_of (Set elements)
