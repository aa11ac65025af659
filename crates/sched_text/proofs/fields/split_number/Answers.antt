use Rattle.std.proofs.Common.{arith}
use Rattle.sched_text.proofs.IfLemmas.{if_none}
use Rattle.sched_text.proofs.NumberLaws.{no_number}
use Rattle.sched_text.proofs.fields.split_number.Goals as goal

pub returns-in_err-number-clause-none : goal.returns-in_err-number-clause-none
returns-in_err-number-clause-none c =
    if_none c.from_residual-in_err-number.result _ (no_number c.args.most c.args.bytes.now c.in_ok-after_space.field-0.now c.split_word.result.0.now c.split_word.result.1.now
    (omega (arith, c.ranges.most.fits)) c.in_ok-after_space.ensures.some c.split_word.ensures.split c.split_word.ensures.word c.split_word.ensures.rest c.in_err-number.ensures.none)
