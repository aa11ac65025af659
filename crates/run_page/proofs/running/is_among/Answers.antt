use Rattle.run_page.proofs.RunLemmas.{among_here, among_none, among_on}
use Rattle.run_page.proofs.running.is_among.Goals as goal

pub loop-other-preserved : goal.loop-other-preserved
loop-other-preserved c = among_on c.args.numbers.now c.loop-other.other-index _ c.args.number c.loop-other-test.true c.if-other-number.false c.loop-other.invariant

pub returns-then-other-number : goal.returns-then-other-number
returns-then-other-number c = among_here c.args.numbers.now c.loop-other.other-index _ c.args.number c.loop-other-test.true c.if-other-number.true

pub returns : goal.returns
returns c = among_none c.args.numbers.now c.loop-other.other-index c.args.number c.loop-other-test.false c.loop-other.invariant
