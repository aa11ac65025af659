use Rattle.da_core.specs.Compiled.{program_of}
use Rattle.schedule_hunt.specs.Hunt.{ShowsNoneOf}
use Rattle.schedule_hunt.proofs.hunting.seek.Given as goal

abbrev pub invariant-loop-place : goal.invariant-loop-place
invariant-loop-place g l = ShowsNoneOf (program_of l.compiled) l.what l.trials l.place
