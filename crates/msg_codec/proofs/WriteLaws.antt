-- Bytes that are appended one after the other, and what of a value its parts bring with them.
use Rattle.std.specs.Prelude.{◌≡◌, ℕ, zero, suc, ℤ, Bool, true, false, ◌<◌, ◌≤◌, List, [], ◌∷◌, ◌++◌, length, map, take, nat_le, slice_index_or, Result, Ok, Err, IfOk, IfErr, refl}
use Rattle.std.specs.Int.{w32, w64, w128, cast_signed, cast_unsigned, from_bool}
use Rattle.std.specs.Int.RustNames.{FitsSigned}
use Rattle.std.specs.List.{list_all}
use Rattle.std.proofs.Common.{◌∙◌, ap, sym, arith, append_assoc, length-append, Fits}
use Rattle.std.proofs.Math.Seq.{take-length}
use Rattle.std.proofs.lemmas.Bool.{and_parts, leb-true}
use Rattle.std.proofs.lemmas.Int.{to_z-of_z}
use Rattle.std.proofs.lemmas.List.{take-append-le, take-take}
use Rattle.da_values.specs.declared.val.Val.{Val}
use Rattle.da_values.specs.declared.val.Val.TheVariants as val
use Rattle.da_values.specs.declared.value.Value.{Value}
use Rattle.da_values.specs.declared.value.Value.TheVariants as kept
use Rattle.da_values.specs.Narrow.{is_narrow}
use Rattle.da_values.specs.Value.{val_of, vals}
use Rattle.da_values.proofs.FoldsAt.{is_narrow_of}
use Rattle.msg_codec.specs.Packets.{has_few_parts, joined, truth_byte, value_bytes}
use Rattle.msg_codec.specs.Pieces.{HasRoom, HaveRoom}
use Rattle.msg_codec.proofs.BytesAt.{bytes_of_tuple, bytes_of_set}
use Rattle.msg_codec.proofs.CarriedLaws.{fits_of_i64, has_few_of}
use Rattle.msg_codec.proofs.ReadLaws.{most_values}

-- APPENDED

pub on_ok : {T E : Type 0} (P Q : Type 0) (r : Result T E) → (P → Q) → IfOk r (λ _. P) → IfOk r (λ _. Q)
on_ok P Q (Ok x) f there = f there
on_ok P Q (Err x) f there = tt

pub on_err : {T E : Type 0} (P Q : Type 0) (r : Result T E) → (P → Q) → IfErr r (λ _. P) → IfErr r (λ _. Q)
on_err P Q (Ok x) f there = tt
on_err P Q (Err x) f there = f there

pub at_err : {T E : Type 0} (P : Type 0) (r : Result T E) → P → IfErr r (λ _. P)
at_err P (Ok x) there = tt
at_err P (Err x) there = there

pub wrote : (old mid new first more whole : List ℕ) → mid ≡ old ++ first → whole ≡ first ++ more → new ≡ mid ++ more → new ≡ old ++ whole
wrote old mid new first more whole before is now = now ∙ ap (λ t. t ++ more) before ∙ append_assoc old first more ∙ ap (λ t. old ++ t) (sym is)

-- what stood there before stands there still
pub kept_front : (old mid new first : List ℕ) → mid ≡ old ++ first → take (length mid) new ≡ mid → take (length old) new ≡ old
kept_front old mid new first is kept_ =
    sym (take-take (length old) (length mid) new (omega (arith, ap length is, length-append old first))) ∙ ap (take (length old)) (kept_ ∙ is)
    ∙ take-append-le (length old) old first (omega arith) ∙ take-length old

-- CASTS

-- an i128 as an i64
pub narrowed : (z : ℤ) → FitsSigned w64 z → cast_signed w128 (cast_unsigned w128 z) ≡ z
narrowed z fits = to_z-of_z w128 z (record { sfits = omega (arith, fits.sfits) })

pub narrowed_twice : (z : ℤ) → FitsSigned w64 z → cast_signed w64 (cast_unsigned w64 (cast_signed w128 (cast_unsigned w128 z))) ≡ z
narrowed_twice z fits = ap (λ y. cast_signed w64 (cast_unsigned w64 y)) (narrowed z fits) ∙ to_z-of_z w64 z fits

pub truth_cast : (truth : Bool) → truth_byte truth ≡ from_bool truth
truth_cast false = refl
truth_cast true = refl

-- PARTS

pub integer_fits : (v : Value) (number : ℤ) → v ≡ kept.Int number → HasRoom (val_of v) → FitsSigned w64 number
integer_fits v number is room = fits_of_i64 number (sym (ap (λ w. is_narrow (val_of w)) is ∙ is_narrow_of (kept.Int number)) ∙ room.0)

-- few parts, and each of them has few
tuple_parts : (parts : List Val) → HasRoom (val.Tuple parts) → (nat_le (length parts) 255 ≡ true) × (list_all has_few_parts parts ≡ true)
tuple_parts parts room = and_parts (nat_le (length parts) 255) (list_all has_few_parts parts) (sym (has_few_of (kept.Tuple parts)) ∙ room.1)

pub few_parts : (parts : List Val) → HasRoom (val.Tuple parts) → length parts ≤ 255
few_parts parts room = leb-true (length parts) 255 (tuple_parts parts room).0

-- each part has room, and they take no more bytes
pub inside_tuple : (parts : List Val) → HasRoom (val.Tuple parts) → length (value_bytes (val.Tuple parts)) ≤ 60000 → HaveRoom parts × (length (joined (map value_bytes parts)) ≤ 60000)
inside_tuple parts room small = ((sym (is_narrow_of (kept.Tuple parts)) ∙ room.0, (tuple_parts parts room).1), omega (arith, ap length (bytes_of_tuple parts), small))

pub inside_set : (elements : List Val) → HasRoom (val.Set elements) → length (value_bytes (val.Set elements)) ≤ 60000 → HaveRoom elements × (length (joined (map value_bytes elements)) ≤ 60000)
inside_set elements room small = ((sym (is_narrow_of (kept.Set elements)) ∙ room.0, sym (has_few_of (kept.Set elements)) ∙ room.1), omega (arith, ap length (bytes_of_set elements), small))

pub count_fits : (elements : List Val) (n : ℕ) → n ≡ length elements → length (value_bytes (val.Set elements)) ≤ 60000 → Fits w32 n
count_fits elements n is small = record { fits = omega (arith, is, ap length (bytes_of_set elements), most_values elements, small) }

-- a member at a place
pub room_of_part : (values : List Value) (k : ℕ) (d : Value) → k < length values → HaveRoom (vals values) → HasRoom (val_of (slice_index_or values k d))
room_of_part [] k d inside room = absurd (omega (arith, inside))
room_of_part (v ∷ vs) zero d inside room = ((and_parts _ _ room.0).0, (and_parts _ _ room.1).0)
room_of_part (v ∷ vs) (suc k) d inside room = room_of_part vs k d (omega (arith, inside)) ((and_parts _ _ room.0).1, (and_parts _ _ room.1).1)

pub small_part : (values : List Value) (k : ℕ) (d : Value) → k < length values → length (value_bytes (val_of (slice_index_or values k d))) ≤ length (joined (map value_bytes (vals values)))
small_part [] k d inside = absurd (omega (arith, inside))
small_part (v ∷ vs) zero d inside = omega (arith, length-append (value_bytes (val_of v)) (joined (map value_bytes (vals vs))))
small_part (v ∷ vs) (suc k) d inside = omega (arith, length-append (value_bytes (val_of v)) (joined (map value_bytes (vals vs))), small_part vs k d (omega (arith, inside)))
