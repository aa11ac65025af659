use Rattle.std.proofs.Common.{◌+◌, length}
use Rattle.std.specs.Option.{is_none}
use Rattle.da_calls.proofs.CallSearch.{Marking, left}
use Rattle.da_calls.proofs.search.mark_from.Given as goal

abbrev pub invariant-loop-node : goal.invariant-loop-node
invariant-loop-node l = Marking l.graph l.from l.initial.marks l.marks l.work

abbrev pub decreases-loop-node : goal.decreases-loop-node
decreases-loop-node l = length l.work + left is_none l.marks l.graph
