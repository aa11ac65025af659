use Rattle.std.proofs.Common.{◌≤◌, length, reverse, take}
use Rattle.da_calls.proofs.CallCycles.{Cycling}
use Rattle.da_calls.proofs.cycles.cycle_marks.Given as goal

abbrev pub invariant-loop-left : goal.invariant-loop-left
invariant-loop-left l = (l.left ≤ length l.order) × Cycling l.graph (reverse (take l.left l.order)) l.marks.items

abbrev pub decreases-loop-left : goal.decreases-loop-left
decreases-loop-left l = l.left
