use Rattle.std.proofs.Common.{◌+◌, ◌<◌, length, refl, sym, ◌∙◌, arith}
use Rattle.type_table.proofs.TableLaws.{read_at}
use Rattle.type_choice.proofs.ForceLaws.{apart_more, apart_all}
use Rattle.type_choice.proofs.ListLaws.{all_drop}
use Rattle.type_choice.proofs.forcing.is_apart.Goals as goal

pub loop-number-init : goal.loop-number-init
loop-number-init c = (λ i k few. absurd (omega (arith, few)), c.requires.numbers)

pub returns-then-root-end-clause-meets : goal.returns-then-root-end-clause-meets
returns-then-root-end-clause-meets c = λ can. (c.loop-number.number-index, _, read_at c.args.numbers.now c.loop-number.number-index _ 0 c.loop-number-test.true refl, sym c.root.ensures.is ∙ c.if-root-end.true)

pub loop-number-preserved : goal.loop-number-preserved
loop-number-preserved c = (
  apart_more c.args.forms.now c.args.numbers.now c.args.end c.loop-number.number-index _ c.loop-number.invariant.0 (read_at c.args.numbers.now c.loop-number.number-index _ 0 c.loop-number-test.true refl) (λ e. c.if-root-end.false (c.root.ensures.is ∙ e)),
  all_drop (λ k. k < length c.args.forms.now) c.args.numbers.now (c.loop-number.number-index + 1) c.requires.numbers,
)

pub returns-clause-apart : goal.returns-clause-apart
returns-clause-apart c = λ can. apart_all c.args.forms.now c.args.numbers.now c.args.end c.loop-number.number-index c.loop-number.invariant.0 (omega (arith, c.loop-number-test.false))
