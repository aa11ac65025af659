use Rattle.std.specs.Prelude.{◌≤◌, [], ◌∷◌, ◌++◌, length, map}
use Rattle.std.specs.Int.{w32, w64, to_be_bytes}
use Rattle.std.specs.Int.RustNames.{FitsSigned}
use Rattle.std.proofs.Common.{◌∙◌, ap, arith, refl, rules, subst, sym}
use Rattle.da_values.specs.declared.val.Val.TheVariants as val
use Rattle.da_values.specs.Layer.{weight_part}
use Rattle.da_values.specs.Value.{val_of, vals}
use Rattle.msg_codec.specs.Packets.{joined, value_bytes}
use Rattle.msg_codec.specs.Pieces.{HaveRoom, HasRoom}
use Rattle.msg_codec.proofs.BytesAt.{bytes_of_tuple, bytes_of_set}
use Rattle.msg_codec.proofs.WriteLaws.{at_err, room_of_part, count_fits, few_parts, inside_set, inside_tuple, integer_fits, kept_front, narrowed, on_err, on_ok, small_part, wrote}
use Rattle.msg_codec.proofs.writing.+put.Goals as goal

pub put_set-overflow_cast-len : goal.put_set-overflow_cast-len
put_set-overflow_cast-len t c = count_fits c.args.elements.now c.len.result c.len.ensures c.requires.small

pub put_set-put_values-requires : goal.put_set-put_values-requires
put_set-put_values-requires t c =
    (search rules, subst (λ xs. HaveRoom xs × (length (joined (map value_bytes xs)) ≤ 60000)) (sym c.as_slice.ensures.items) (inside_set c.args.elements.now c.requires.room c.requires.small))

pub put_set-returns-clause-ok : goal.put_set-returns-clause-ok
put_set-returns-clause-ok t c =
    let digits = c.to_be_bytes.ensures ∙ ap (to_be_bytes w32) c.len.ensures in
    let front = wrote c.args.out.now c.push.new.self c.append.new.self (83 ∷ []) c.to_be_bytes.result (83 ∷ c.to_be_bytes.result) c.in_ok-push.ensures.ok refl c.in_ok-append.ensures.ok in
    on_ok _ _ c.put_values.result
    (wrote c.args.out.now c.append.new.self c.put_values.new.out (83 ∷ c.to_be_bytes.result) (joined (map value_bytes (vals c.as_slice.result.now))) (value_bytes (val.Set c.args.elements.now)) front
    (bytes_of_set c.args.elements.now ∙ (λ i. 83 ∷ sym digits i ++ joined (map value_bytes (sym c.as_slice.ensures.items i))))) c.put_values.ensures.ok

pub put_set-returns-clause-err : goal.put_set-returns-clause-err
put_set-returns-clause-err t c =
    let front = wrote c.args.out.now c.push.new.self c.append.new.self (83 ∷ []) c.to_be_bytes.result (83 ∷ c.to_be_bytes.result) c.in_ok-push.ensures.ok refl c.in_ok-append.ensures.ok in
    on_err _ _ c.put_values.result (kept_front c.args.out.now c.append.new.self c.put_values.new.out (83 ∷ c.to_be_bytes.result) front) c.put_values.ensures.err

pub put_tuple-overflow_cast-len : goal.put_tuple-overflow_cast-len
put_tuple-overflow_cast-len t c = record { fits = omega (arith, few_parts c.args.parts.now c.requires.room, c.len.ensures) }

pub put_tuple-put_values-requires : goal.put_tuple-put_values-requires
put_tuple-put_values-requires t c =
    (search rules, subst (λ xs. HaveRoom xs × (length (joined (map value_bytes xs)) ≤ 60000)) (sym c.as_slice.ensures) (inside_tuple c.args.parts.now c.requires.room c.requires.small))

pub put_tuple-returns-clause-ok : goal.put_tuple-returns-clause-ok
put_tuple-returns-clause-ok t c =
    let front = wrote c.args.out.now c.push.new.self c.push-2.new.self (116 ∷ []) (c.len.result ∷ []) (116 ∷ c.len.result ∷ []) c.in_ok-push.ensures.ok refl c.in_ok-push-2.ensures.ok in
    on_ok _ _ c.put_values.result
    (wrote c.args.out.now c.push-2.new.self c.put_values.new.out (116 ∷ c.len.result ∷ []) (joined (map value_bytes (vals c.as_slice.result.now))) (value_bytes (val.Tuple c.args.parts.now)) front
    (bytes_of_tuple c.args.parts.now ∙ (λ i. 116 ∷ sym c.len.ensures i ∷ joined (map value_bytes (sym c.as_slice.ensures i))))) c.put_values.ensures.ok

pub put_tuple-returns-clause-err : goal.put_tuple-returns-clause-err
put_tuple-returns-clause-err t c =
    let front = wrote c.args.out.now c.push.new.self c.push-2.new.self (116 ∷ []) (c.len.result ∷ []) (116 ∷ c.len.result ∷ []) c.in_ok-push.ensures.ok refl c.in_ok-push-2.ensures.ok in
    on_err _ _ c.put_values.result (kept_front c.args.out.now c.push-2.new.self c.put_values.new.out (116 ∷ c.len.result ∷ []) front) c.put_values.ensures.err

pub put_value-put_integer-requires : goal.put_value-put_integer-requires
put_value-put_integer-requires t c =
    let fits = integer_fits c.args.v.now c.in-Int.number c.in-Int.is c.requires.room in
    subst (FitsSigned w64) (sym (narrowed c.in-Int.number fits)) fits

pub put_values-put_value-requires : goal.put_values-put_value-requires
put_values-put_value-requires t c =
    let inside = c.loop-value-test.true in (
      search (rules, weight_part),
      (
        subst (λ v. HasRoom (val_of v)) (sym c.value-item.is) (room_of_part c.args.values.now c.loop-value.value-index c.value-item.result inside c.requires.room),
        subst (λ v. length (value_bytes (val_of v)) ≤ 60000) (sym c.value-item.is) (omega (arith, small_part c.args.values.now c.loop-value.value-index c.value-item.result inside, c.requires.small)),
      ),
    )

pub put_values-returns-in_err-put_value-clause-err : goal.put_values-returns-in_err-put_value-clause-err
put_values-returns-in_err-put_value-clause-err t c = at_err _ c.from_residual.result (kept_front c.args.out.now c.loop-value.out c.put_value.new.out _ c.loop-value.invariant c.in_err-put_value.ensures.err)
