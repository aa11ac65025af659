use Rattle.std.proofs.Common.{◌≡◌, ◌++◌, take, flat_map}
use Rattle.da_limits.specs.Sizes.{sizes_of, sizes_of_branch}
use Rattle.da_limits.proofs.sizes.+sizes.Given as goal

abbrev pub invariant-put_sizes-loop-stmt : goal.invariant-put_sizes-loop-stmt
invariant-put_sizes-loop-stmt l = l.out ≡ l.fn.out ++ flat_map sizes_of (take l.stmt-index l.stmts)

abbrev pub invariant-put_sizes_of_branches-loop-branch : goal.invariant-put_sizes_of_branches-loop-branch
invariant-put_sizes_of_branches-loop-branch l = l.out ≡ l.fn.out ++ flat_map sizes_of_branch (take l.branch-index l.branches)
