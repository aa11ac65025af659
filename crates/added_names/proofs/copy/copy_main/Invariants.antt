use Rattle.std.proofs.Common.{◌≡◌, take}
use Rattle.added_names.proofs.copy.copy_main.Given as goal

abbrev pub invariant-loop-line : goal.invariant-loop-line
invariant-loop-line l = l.copy ≡ take l.line-index l.main
