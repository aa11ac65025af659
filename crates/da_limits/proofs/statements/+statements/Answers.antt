use Rattle.std.proofs.Common.{rules}
use Rattle.da_limits.proofs.ExtentRules.{together_step, block_end}
use Rattle.da_limits.proofs.statements.+statements.Goals as goal

pub block-loop-stmt-preserved : goal.block-loop-stmt-preserved
block-loop-stmt-preserved t c = together_step _ _ _ _ _ _ _ c.loop-stmt-test.true c.stmt-item.is c.loop-stmt.invariant c.statement.ensures c.beside-all.ensures

pub branches_of-loop-branch-preserved : goal.branches_of-loop-branch-preserved
branches_of-loop-branch-preserved t c = together_step _ _ _ _ _ _ _ c.loop-branch-test.true c.branch-item.is c.loop-branch.invariant c.branch_of.ensures c.beside-all.ensures

pub block-returns : goal.block-returns
block-returns t c = block_end _ _ _ _ _ c.loop-stmt-test.false (search rules) c.loop-stmt.invariant c.deeper.ensures
