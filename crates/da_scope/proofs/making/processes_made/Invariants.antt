use Rattle.std.proofs.Common.{◌≡◌, take}
use Rattle.da_scope.specs.MakingView.{made_by}
use Rattle.da_scope.proofs.making.processes_made.Given as goal

abbrev pub invariant-loop-line : goal.invariant-loop-line
invariant-loop-line l = l.count ≡ made_by (take l.line-index l.lines)
