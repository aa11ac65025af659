use Rattle.std.proofs.Common.{◌≡◌, take}
use Rattle.da_machine.proofs.stack.lefts.Given as goal

abbrev pub invariant-loop-rest : goal.invariant-loop-rest
invariant-loop-rest l = l.copies ≡ take l.rest-index l.loops
