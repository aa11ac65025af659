use Rattle.std.proofs.Common.{arith}
use Rattle.sched_text.proofs.FaultLaws.{lacks_kind, lacks_line, lacks_space}
use Rattle.sched_text.proofs.IfLemmas.{if_none}
use Rattle.sched_text.proofs.reading.read_fault.Goals as goal

pub returns-in_err-after_space-clause-none : goal.returns-in_err-after_space-clause-none
returns-in_err-after_space-clause-none c =
    if_none c.from_residual-in_err-after_space.result _ (lacks_space c.in_ok-p.p c.args.rest.now c.in_ok-p.rest.now
    c.in_ok-p.ensures.some.0 c.in_ok-p.ensures.some.1 c.in_ok-p.ensures.some.2 c.in_err-after_space.ensures.none)

pub returns-in_err-kind-clause-none : goal.returns-in_err-kind-clause-none
returns-in_err-kind-clause-none c =
    if_none c.from_residual-in_err-kind.result _ (lacks_kind c.in_ok-p.p c.args.rest.now c.in_ok-p.rest.now c.in_ok-after_space.field-0.now c.split_word.result.0.now c.split_word.result.1.now
    c.in_ok-p.ensures.some.0 c.in_ok-p.ensures.some.1 c.in_ok-p.ensures.some.2 c.in_ok-after_space.ensures.some c.split_word.ensures.split c.split_word.ensures.word c.split_word.ensures.rest c.in_err-kind.ensures.none)

pub returns-in_err-line-clause-none : goal.returns-in_err-line-clause-none
returns-in_err-line-clause-none c =
    if_none c.from_residual-in_err-line.result _ (lacks_line _ c.in_ok-p.p c.args.rest.now c.in_ok-p.rest.now c.in_ok-after_space.field-0.now c.split_word.result.0.now c.split_word.result.1.now (λ n fits. omega (arith, fits))
    c.in_ok-p.ensures.some.0 c.in_ok-p.ensures.some.1 c.in_ok-p.ensures.some.2 c.in_ok-after_space.ensures.some c.split_word.ensures.split c.split_word.ensures.word c.split_word.ensures.rest c.in_err-line.ensures.none)
