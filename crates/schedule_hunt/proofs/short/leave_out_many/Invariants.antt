use Rattle.da_core.specs.Compiled.{program_of}
use Rattle.schedule_hunt.specs.Shortening.{IsShownPart}
use Rattle.schedule_hunt.proofs.short.leave_out_many.Given as goal

abbrev pub invariant-sizes : goal.invariant-sizes
invariant-sizes l = IsShownPart (program_of l.compiled) l.what l.events l.initial.events

abbrev pub decreases-sizes : goal.decreases-sizes
decreases-sizes l = l.size
