use Rattle.std.proofs.Common.{◌∙◌, ◌+◌, ap, arith}
use Rattle.type_choice.specs.Looks.{cut_tokens, number_at}
use Rattle.type_choice.proofs.CountLaws.{total_goes, total_ends}
use Rattle.type_choice.proofs.sizes.total_tokens.Goals as goal

pub loop-part-preserved : goal.loop-part-preserved
loop-part-preserved c = (
  total_goes (number_at c.args.tokens.now) c.args.parts.now c.loop-part.part-index c.loop-part.count _ c.loop-part-test.true (c.more-count.ensures ∙ ap (λ z. cut_tokens (c.loop-part.count + z)) c.number_at.ensures) c.loop-part.invariant.0,
  omega (arith, c.more-count.ensures),
)

pub returns : goal.returns
returns c = total_ends (number_at c.args.tokens.now) c.args.parts.now c.loop-part.part-index c.loop-part.count (omega (arith, c.loop-part-test.false)) c.loop-part.invariant.1 c.loop-part.invariant.0
