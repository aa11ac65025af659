use Rattle.da_scope.proofs.WithinLimits.{one_within}
use Rattle.da_scope.proofs.making.processes.Goals as goal

pub add_processes-requires-clause-made : goal.add_processes-requires-clause-made
add_processes-requires-clause-made c = one_within _ _ _ _ c.as_slice-line-items.ensures c.requires.made c.loop-line-test.true c.line-item.is
