use Rattle.std.proofs.Common.{◌≡◌, map, take}
use Rattle.da_core.specs.LocalState.{rows_value}
use Rattle.da_core.proofs.local.each_set.Given as goal

abbrev pub invariant-loop-set : goal.invariant-loop-set
invariant-loop-set l = l.parts ≡ map rows_value (take l.set-index l.sets)
