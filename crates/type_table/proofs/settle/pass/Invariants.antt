use Rattle.type_table.specs.Settling.{Passed}
use Rattle.type_table.proofs.settle.pass.Given as goal

abbrev pub invariant-loop-k : goal.invariant-loop-k
invariant-loop-k l = Passed l.forms l.initial.marks l.marks l.k l.more
