use Rattle.da_front.proofs.WatchLemmas.{odd_end, odd_here, odd_on}
use Rattle.da_front.proofs.watch.odd_among.Goals as goal

pub loop-line-preserved : goal.loop-line-preserved
loop-line-preserved c = odd_on c.args.first c.args.lines.now c.loop-line.line-index c.line-item.result c.is_setup.result c.loop-line-test.true c.line-item.is c.is_setup.ensures c.if-not-is_setup.false c.loop-line.invariant

pub returns-then-not-is_setup : goal.returns-then-not-is_setup
returns-then-not-is_setup c =
    odd_here c.args.first c.args.lines.now c.loop-line.line-index c.line-item.result c.is_setup.result c.line_of.result c.loop-line-test.true c.line-item.is c.is_setup.ensures c.if-not-is_setup.true c.line_of.ensures c.loop-line.invariant

pub returns : goal.returns
returns c = odd_end c.args.first c.args.lines.now c.loop-line.line-index c.loop-line-test.false c.loop-line.invariant
