use Rattle.std.specs.Prelude.{[], ◌∷◌}
use Rattle.std.specs.Int.{from_bool}
use Rattle.std.proofs.Common.{◌∙◌, ap}
use Rattle.da_values.specs.declared.val.Val.TheVariants as val
use Rattle.msg_codec.specs.Packets.{value_bytes}
use Rattle.msg_codec.proofs.BytesAt.{bytes_of_truth}
use Rattle.msg_codec.proofs.WriteLaws.{on_ok, truth_cast, wrote}
use Rattle.msg_codec.proofs.writing.put_truth.Goals as goal

pub returns-clause-ok : goal.returns-clause-ok
returns-clause-ok c =
    on_ok _ _ c.push-2.result
    (wrote c.args.out.now c.push.new.self c.push-2.new.self (98 ∷ []) (from_bool c.args.truth ∷ []) (value_bytes (val.Bool c.args.truth)) c.in_ok-push.ensures.ok
    (bytes_of_truth c.args.truth ∙ ap (λ b. 98 ∷ b ∷ []) (truth_cast c.args.truth))) c.push-2.ensures.ok
