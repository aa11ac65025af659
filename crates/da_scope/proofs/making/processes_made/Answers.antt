use Rattle.std.proofs.Common.{arith}
use Rattle.da_scope.proofs.WithinLimits.{made_within}
use Rattle.da_scope.proofs.making.processes_made.Goals as goal

pub count_made-count-requires : goal.count_made-count-requires
count_made-count-requires c = omega (arith, made_within c.args.lines.now _ _ c.loop-line-test.true c.line-item.is, c.requires)

pub overflow_add-count : goal.overflow_add-count
overflow_add-count c = omega (arith, made_within c.args.lines.now _ _ c.loop-line-test.true c.line-item.is, c.loop-line.invariant, c.count_made-count.ensures, c.requires)
