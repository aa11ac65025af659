use Rattle.std.proofs.Common.{◌-◌, length}
use Rattle.da_machine.proofs.Stacks.{Turning}
use Rattle.da_machine.proofs.stack.Stack.take_turned.Given as goal

abbrev pub invariant-values : goal.invariant-values
invariant-values l = Turning l.initial.self l.self l.turned l.keep

abbrev pub decreases-values : goal.decreases-values
decreases-values l = length l.self - l.keep
