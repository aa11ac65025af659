use Rattle.std.proofs.Common.{◌∙◌, ap, arith}
use Rattle.std.specs.Prelude.{max}
use Rattle.type_choice.specs.Looks.{number_at}
use Rattle.type_choice.proofs.CountLaws.{deepest_goes, deepest_ends}
use Rattle.type_choice.proofs.sizes.deepest.Goals as goal

pub loop-part-preserved : goal.loop-part-preserved
loop-part-preserved c = deepest_goes (number_at c.args.levels.now) c.args.parts.now c.loop-part.part-index c.loop-part.most _ c.loop-part-test.true (c.max-most.ensures ∙ ap (λ z. max z c.loop-part.most) c.number_at-count.ensures) c.loop-part.invariant

pub returns : goal.returns
returns c = deepest_ends (number_at c.args.levels.now) c.args.parts.now c.loop-part.part-index c.loop-part.most (omega (arith, c.loop-part-test.false)) c.loop-part.invariant
