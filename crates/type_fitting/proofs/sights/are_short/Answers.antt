use Rattle.std.proofs.Common.{arith}
use Rattle.type_fitting.proofs.LoopLaws.{short_on, short_fails}
use Rattle.type_fitting.proofs.sights.are_short.Goals as goal

pub loop-number-init : goal.loop-number-init
loop-number-init c = λ forms are counts k below. absurd (omega (arith, below))

pub returns-then-not-is_short-clause-some : goal.returns-then-not-is_short-clause-some
returns-then-not-is_short-clause-some c = λ forms are counts long. short_fails c.args.looks.now c.args.count c.loop-number.number c.is_short.result (omega arith) c.is_short.ensures c.if-not-is_short.true forms are counts

pub loop-number-preserved : goal.loop-number-preserved
loop-number-preserved c = short_on c.args.looks.now c.args.count c.loop-number.number c.is_short.result (omega arith) c.loop-number.invariant c.is_short.ensures c.if-not-is_short.false

pub returns-clause-all : goal.returns-clause-all
returns-clause-all c = λ forms are counts all k below. c.loop-number.invariant forms are counts k (omega (arith, below))
