use Rattle.std.proofs.Common.{arith}
use Rattle.sched_text.proofs.IfLemmas.{if_none}
use Rattle.sched_text.proofs.FieldLaws.{lacks_pair}
use Rattle.sched_text.proofs.reading.read_kept.Goals as goal

pub returns-in_err-n-clause-none : goal.returns-in_err-n-clause-none
returns-in_err-n-clause-none c =
    if_none c.from_residual-in_err-n.result _ (lacks_pair 128 _ c.in_ok-p.p c.args.rest.now c.in_ok-p.rest.now (λ n fits. omega (arith, fits))
    c.in_ok-p.ensures.some.0 c.in_ok-p.ensures.some.1 c.in_ok-p.ensures.some.2 c.in_err-n.ensures.none)
