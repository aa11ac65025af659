use Rattle.da_front.proofs.WatchLemmas.{all_end, all_not, all_on}
use Rattle.da_front.proofs.watch.sets_up.Goals as goal

pub loop-line-preserved : goal.loop-line-preserved
loop-line-preserved c = all_on c.args.lines.now c.loop-line.line-index c.line-item.result c.is_setup.result c.loop-line-test.true c.line-item.is c.is_setup.ensures c.if-not-is_setup.false c.loop-line.invariant

pub returns-then-not-is_setup : goal.returns-then-not-is_setup
returns-then-not-is_setup c = all_not c.args.lines.now c.loop-line.line-index c.line-item.result c.is_setup.result c.loop-line-test.true c.line-item.is c.is_setup.ensures c.if-not-is_setup.true c.loop-line.invariant

pub returns : goal.returns
returns c = all_end c.args.lines.now c.loop-line.line-index c.loop-line-test.false c.loop-line.invariant
