use Rattle.std.proofs.Common.{◌≡◌, ◌++◌, take, flat_map}
use Rattle.added_names.specs.StmtTags.{main_tags}
use Rattle.added_names.proofs.statements.put_main.Given as goal

abbrev pub invariant-loop-line : goal.invariant-loop-line
invariant-loop-line l = l.out ≡ l.initial.out ++ flat_map main_tags (take l.line-index l.main)
