use Rattle.std.specs.Prelude.{[], ◌∷◌, ◌++◌, length}
use Rattle.std.specs.Int.{w16, to_be_bytes}
use Rattle.std.proofs.Common.{◌∙◌, ap, refl, sym}
use Rattle.da_values.specs.declared.val.Val.TheVariants as val
use Rattle.msg_codec.specs.Packets.{value_bytes}
use Rattle.msg_codec.proofs.BytesAt.{bytes_of_text}
use Rattle.msg_codec.proofs.WriteLaws.{on_ok, wrote}
use Rattle.msg_codec.proofs.writing.put_text.Goals as goal

pub returns-clause-ok : goal.returns-clause-ok
returns-clause-ok c =
    let text = c.as_bytes-bytes.ensures.text in
    let digits = c.to_be_bytes.ensures ∙ ap (λ t. to_be_bytes w16 (length t)) text in
    let front = wrote c.args.out.now c.push.new.self c.append.new.self (115 ∷ []) c.to_be_bytes.result (115 ∷ c.to_be_bytes.result) c.in_ok-push.ensures.ok refl c.in_ok-append.ensures.ok in
    on_ok _ _ c.append-2.result
    (wrote c.args.out.now c.append.new.self c.append-2.new.self (115 ∷ c.to_be_bytes.result) c.as_bytes-bytes.result.now (value_bytes (val.Text c.args.text.now)) front
    (bytes_of_text c.args.text.now ∙ (λ i. 115 ∷ sym digits i ++ sym text i))) c.append-2.ensures.ok
