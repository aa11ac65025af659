use Rattle.std.proofs.Common.{length}
use Rattle.da_values.specs.Value.{vals}
use Rattle.da_machine.proofs.Stacks.{Unturning}
use Rattle.da_machine.proofs.stack.Stack.collected.Given as goal

abbrev pub invariant-values : goal.invariant-values
invariant-values l = Unturning l.fn.self l.left (vals l.values.items)

abbrev pub decreases-values : goal.decreases-values
decreases-values l = length l.left
