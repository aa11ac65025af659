use Rattle.std.specs.Prelude.{[], ◌∷◌}
use Rattle.std.proofs.Common.{◌∙◌, ap, sym}
use Rattle.da_values.specs.declared.val.Val.TheVariants as val
use Rattle.msg_codec.specs.Packets.{value_bytes}
use Rattle.msg_codec.proofs.BytesAt.{bytes_of_process}
use Rattle.msg_codec.proofs.WriteLaws.{on_ok, wrote}
use Rattle.msg_codec.proofs.writing.put_process.Goals as goal

pub returns-clause-ok : goal.returns-clause-ok
returns-clause-ok c =
    on_ok _ _ c.append.result
    (wrote c.args.out.now c.push.new.self c.append.new.self (112 ∷ []) c.to_be_bytes.result (value_bytes (val.Proc c.args.process)) c.in_ok-push.ensures.ok
    (bytes_of_process c.args.process ∙ ap (λ d. 112 ∷ d) (sym c.to_be_bytes.ensures))) c.append.ensures.ok
