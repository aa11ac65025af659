use Rattle.std.proofs.Common.{◌≡◌, take}
use Rattle.class_demands.proofs.heads.copy_binds.Given as goal

abbrev pub invariant-loop-bind : goal.invariant-loop-bind
invariant-loop-bind l = l.copy ≡ take l.bind-index l.binds
