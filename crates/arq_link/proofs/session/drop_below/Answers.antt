use Rattle.std.proofs.Common.{arith}
use Rattle.arq_link.proofs.WaitingLaws.{drops_all}
use Rattle.arq_link.proofs.session.drop_below.Goals as goal

pub returns-clause-left : goal.returns-clause-left
returns-clause-left c = drops_all c.args.number _ _ _ _ c.loop-first.invariant (omega (arith, c.loop-first-test.false))
