use Rattle.std.proofs.Common.{refl}
use Rattle.da_limits.proofs.CopiesFilled.{copy_step, copies_whole}
use Rattle.da_limits.proofs.methods.copies_of.Goals as goal

pub loop-number-preserved : goal.loop-number-preserved
loop-number-preserved c = record {
  graph = c.loop-number.invariant.graph;
  filled = copy_step c.args.graph.now c.requires.graph.numbers c.requires.none_back c.order-number-items.result.now c.loop-number.copies _ c.methods-methods.result.now c.loop-number.number-index _ _ _
      c.order-number-items.ensures c.loop-number.invariant.graph refl c.methods-methods.ensures c.loop-number-test.true c.index-methods-number.is c.copy_of-extent.ensures c.set.ensures c.loop-number.invariant.filled;
}

pub returns-clause-copied : goal.returns-clause-copied
returns-clause-copied c =
    copies_whole c.args.graph.now c.requires.graph.numbers c.requires.none_back c.order-number-items.result.now c.loop-number.copies _ c.loop-number.number-index
    c.order-number-items.ensures c.loop-number.invariant.graph refl c.loop-number-test.false c.loop-number.auto.number-index-end c.loop-number.invariant.filled
