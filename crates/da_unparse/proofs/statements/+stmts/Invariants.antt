use Rattle.std.proofs.Common.{◌≡◌, ◌++◌, take, flat_map}
use Rattle.da_unparse.specs.Texts.{stmt_text, branch_text}
use Rattle.da_unparse.proofs.statements.+stmts.Given as goal

abbrev pub invariant-put_stmts-loop-stmt : goal.invariant-put_stmts-loop-stmt
invariant-put_stmts-loop-stmt l = l.out ≡ l.fn.out ++ flat_map (stmt_text l.level) (take l.stmt-index l.stmts)

abbrev pub invariant-put_branches-loop-branch : goal.invariant-put_branches-loop-branch
invariant-put_branches-loop-branch l = l.out ≡ l.initial.out ++ flat_map (branch_text l.others l.level) (take l.branch-index l.rest)
