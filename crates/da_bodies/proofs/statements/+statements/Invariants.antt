use Rattle.std.proofs.Common.{◌≡◌, take}
use Rattle.std.specs.List.{fold}
use Rattle.da_bodies.specs.ToldStmts.{after_stmts, told_block, told_branch}
use Rattle.da_bodies.proofs.statements.+statements.Given as goal

abbrev pub invariant-check_block-loop-stmt : goal.invariant-check_block-loop-stmt
invariant-check_block-loop-stmt l = record {
  told : l.least ≡ told_block l.initial.names l.initial.least (take l.stmt-index l.body);
  entered : l.names ≡ after_stmts l.initial.names (take l.stmt-index l.body);
}

abbrev pub invariant-check_branches-loop-branch : goal.invariant-check_branches-loop-branch
invariant-check_branches-loop-branch l = record {
  told : l.least ≡ fold (told_branch l.initial.names) l.initial.least (take l.branch-index l.branches);
  same : l.names ≡ l.initial.names;
}
