use Rattle.std.proofs.Common.{◌≡◌, take}
use Rattle.da_meaning.proofs.scope.Scope.copy.Given as goal

abbrev pub invariant-loop-named : goal.invariant-loop-named
invariant-loop-named l = l.names ≡ take l.named-index l.named-items
