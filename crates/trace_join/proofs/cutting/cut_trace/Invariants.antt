-- So far the trace was cut, and the process stands after it.
use Rattle.std.proofs.Common.{length}
use Rattle.da_lang.specs.World.{opening}
use Rattle.da_core.specs.Compiled.{program_of}
use Rattle.trace_join.proofs.CutLaws.{CutSoFar}
use Rattle.trace_join.proofs.cutting.cut_trace.Given as goal

abbrev pub invariant-loop-pieces : goal.invariant-loop-pieces
invariant-loop-pieces l = CutSoFar (program_of l.fn.compiled) (opening (program_of l.fn.compiled) l.fn.me) l.fn.trace l.pieces l.left l.core

abbrev pub decreases-loop-pieces : goal.decreases-loop-pieces
decreases-loop-pieces l = length l.left
