use Rattle.std.proofs.Common.{take}
use Rattle.da_calls.proofs.CallReached.{Reaching}
use Rattle.da_calls.proofs.search.reach_marks.Given as goal

abbrev pub invariant-loop-start : goal.invariant-loop-start
invariant-loop-start l = Reaching l.graph (take l.start-index l.starts) l.marks.items
