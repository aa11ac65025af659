use Rattle.std.proofs.Common.{◌≡◌, ◌++◌, take, flat_map}
use Rattle.added_names.specs.StmtTags.{stmt_tags, branch_tags}
use Rattle.added_names.proofs.statements.+statements.Given as goal

abbrev pub invariant-put_body-loop-stmt : goal.invariant-put_body-loop-stmt
invariant-put_body-loop-stmt l = l.out ≡ l.initial.out ++ flat_map stmt_tags (take l.stmt-index l.body)

abbrev pub invariant-put_branches-loop-branch : goal.invariant-put_branches-loop-branch
invariant-put_branches-loop-branch l = l.out ≡ l.initial.out ++ flat_map branch_tags (take l.branch-index l.branches)
