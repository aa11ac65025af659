-- The first traces were cut.
use Rattle.da_core.specs.Compiled.{program_of}
use Rattle.trace_join.proofs.AllCutLaws.{CutsSoFar}
use Rattle.trace_join.proofs.cutting.cut_all.Given as goal

abbrev pub invariant-loop-place : goal.invariant-loop-place
invariant-loop-place l = CutsSoFar (program_of l.compiled) l.traces l.cuts l.place
