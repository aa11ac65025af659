use Rattle.std.proofs.Common.{◌≡◌, map, take}
use Rattle.da_limits.specs.Copied.{copied}
use Rattle.da_limits.specs.Extents.{extent, extent_of_branch, together}
use Rattle.da_limits.proofs.statements.+statements.Given as goal

abbrev pub invariant-block-loop-stmt : goal.invariant-block-loop-stmt
invariant-block-loop-stmt l = l.all ≡ together (map (extent (copied l.copies)) (take l.stmt-index l.stmts))

abbrev pub invariant-branches_of-loop-branch : goal.invariant-branches_of-loop-branch
invariant-branches_of-loop-branch l = l.all ≡ together (map (extent_of_branch (copied l.copies)) (take l.branch-index l.branches))
