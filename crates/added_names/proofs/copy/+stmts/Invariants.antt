use Rattle.std.proofs.Common.{◌≡◌, take}
use Rattle.added_names.proofs.copy.+stmts.Given as goal

abbrev pub invariant-copy_body-loop-stmt : goal.invariant-copy_body-loop-stmt
invariant-copy_body-loop-stmt l = l.copy ≡ take l.stmt-index l.body

abbrev pub invariant-copy_branches-loop-branch : goal.invariant-copy_branches-loop-branch
invariant-copy_branches-loop-branch l = l.copy ≡ take l.branch-index l.branches
