use Rattle.std.proofs.Common.{◌∙◌, rules}
use Rattle.msg_codec.proofs.ReadLaws.{integer_there, integer_only, widened}
use Rattle.msg_codec.proofs.reading.integer_at.Goals as goal

pub returns-in-Some-clause-front : goal.returns-in-Some-clause-front
returns-in-Some-clause-front c =
    integer_there c.in-Some.number _ _ _ (search rules) c.in-Some.ensures (widened c.cast_signed.result (record { sfits = c.cast_signed.type_inv }) ∙ c.cast_signed.ensures)

pub returns-in-Some-clause-only : goal.returns-in-Some-clause-only
returns-in-Some-clause-only c =
    integer_only c.in-Some.number _ _ _ (search rules) c.in-Some.ensures (widened c.cast_signed.result (record { sfits = c.cast_signed.type_inv }) ∙ c.cast_signed.ensures)
