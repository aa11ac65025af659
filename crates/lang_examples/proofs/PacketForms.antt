-- The bytes of a value in a packet, one equation for each form.
use Rattle.std.specs.Prelude.{◌≡◌, ℕ, ℤ, Bool, List, [], ◌∷◌, ◌++◌, codes, length, map}
use Rattle.std.specs.Int.{w16, w32, w64, cast_unsigned, to_be_bytes}
use Rattle.da_values.specs.declared.val.Val.{Val}
use Rattle.da_values.specs.declared.val.Val.TheVariants as val
use Rattle.da_values.specs.declared.value.Value.TheVariants as kept
use Rattle.std.proofs.Common.{◌∙◌, ap}
use Rattle.std.proofs.lemmas.List.{length-map}
use Rattle.da_values.specs.Layer.{fold-val_of}
use Rattle.msg_codec.specs.Packets.{bytes_step, joined, truth_byte, value_bytes}

pub bytes-Int : (n : ℤ) → value_bytes (val.Int n) ≡ codes "i" ++ to_be_bytes w64 (cast_unsigned w64 n)
bytes-Int n = fold-val_of (List ℕ) bytes_step (kept.Int n)

pub bytes-Bool : (b : Bool) → value_bytes (val.Bool b) ≡ codes "b" ++ truth_byte b ∷ []
bytes-Bool b = fold-val_of (List ℕ) bytes_step (kept.Bool b)

pub bytes-Text : (text : List ℕ) → value_bytes (val.Text text) ≡ codes "s" ++ to_be_bytes w16 (length text) ++ text
bytes-Text text = fold-val_of (List ℕ) bytes_step (kept.Text text)

pub bytes-Proc : (p : ℕ) → value_bytes (val.Proc p) ≡ codes "p" ++ to_be_bytes w16 p
bytes-Proc p = fold-val_of (List ℕ) bytes_step (kept.Proc p)

pub bytes-Tuple : (parts : List Val) → value_bytes (val.Tuple parts) ≡ codes "t" ++ length parts ∷ joined (map value_bytes parts)
bytes-Tuple parts =
    fold-val_of (List ℕ) bytes_step (kept.Tuple parts) ∙ ap (λ n. codes "t" ++ n ∷ joined (map value_bytes parts)) (length-map parts value_bytes)

pub bytes-Set : (elements : List Val) → value_bytes (val.Set elements) ≡ codes "S" ++ to_be_bytes w32 (length elements) ++ joined (map value_bytes elements)
bytes-Set elements =
    fold-val_of (List ℕ) bytes_step (kept.Set elements) ∙ ap (λ n. codes "S" ++ to_be_bytes w32 n ++ joined (map value_bytes elements)) (length-map elements value_bytes)

pub ruleset packing = (bytes-Int, bytes-Bool, bytes-Text, bytes-Proc, bytes-Tuple, bytes-Set)
