use Rattle.da_core.specs.Compiled.{program_of}
use Rattle.schedule_hunt.proofs.RunLemmas.{CameBy}
use Rattle.schedule_hunt.proofs.runs.generate.Given as goal

abbrev pub invariant-loop-place : goal.invariant-loop-place
invariant-loop-place l = CameBy (program_of l.compiled) l.fn.trials l.number l._place l.trial l.picker
