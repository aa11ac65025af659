use Rattle.std.specs.Prelude.{[], ◌∷◌}
use Rattle.std.specs.Int.{w64, cast_unsigned, to_be_bytes}
use Rattle.std.proofs.Common.{◌∙◌, ap, sym}
use Rattle.da_values.specs.declared.val.Val.TheVariants as val
use Rattle.msg_codec.specs.Packets.{value_bytes}
use Rattle.msg_codec.proofs.BytesAt.{bytes_of_integer}
use Rattle.msg_codec.proofs.WriteLaws.{narrowed_twice, on_ok, wrote}
use Rattle.msg_codec.proofs.writing.put_integer.Goals as goal

pub returns-clause-ok : goal.returns-clause-ok
returns-clause-ok c =
    let digits = c.to_be_bytes.ensures ∙ ap (λ z. to_be_bytes w64 (cast_unsigned w64 z)) (narrowed_twice c.args.number c.requires) in
    on_ok _ _ c.append.result
    (wrote c.args.out.now c.push.new.self c.append.new.self (105 ∷ []) c.to_be_bytes.result (value_bytes (val.Int c.args.number)) c.in_ok-push.ensures.ok (bytes_of_integer c.args.number ∙ ap (λ d. 105 ∷ d) (sym digits))) c.append.ensures.ok
