use Rattle.std.proofs.Common.{arith}
use Rattle.sched_text.proofs.IfLemmas.{if_none}
use Rattle.sched_text.proofs.FieldLaws.{lacks_second, lacks_time}
use Rattle.sched_text.proofs.fields.split_route.Goals as goal

pub returns-in_err-second-clause-none : goal.returns-in_err-second-clause-none
returns-in_err-second-clause-none c =
    if_none c.from_residual-in_err-second.result _ (lacks_second c.in_ok-first.first c.args.bytes.now c.in_ok-first.rest.now
    c.in_ok-first.ensures.some.0 c.in_ok-first.ensures.some.1 c.in_ok-first.ensures.some.2 c.in_err-second.ensures.none)

pub returns-in_err-time-clause-none : goal.returns-in_err-time-clause-none
returns-in_err-time-clause-none c =
    if_none c.from_residual-in_err-time.result _ (lacks_time _ c.in_ok-first.first c.in_ok-second.second c.args.bytes.now c.in_ok-first.rest.now c.in_ok-second.rest.now (λ n fits. omega (arith, fits))
    c.in_ok-first.ensures.some.0 c.in_ok-first.ensures.some.1 c.in_ok-first.ensures.some.2 c.in_ok-second.ensures.some.0 c.in_ok-second.ensures.some.1 c.in_ok-second.ensures.some.2 c.in_err-time.ensures.none)
