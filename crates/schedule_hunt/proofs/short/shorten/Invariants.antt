use Rattle.std.proofs.Common.{Bool, true, false, ℕ, List, ◌+◌, length, cond}
use Rattle.da_core.specs.Compiled.{program_of}
use Rattle.schedule_hunt.specs.Shortening.{IsShownPart}
use Rattle.schedule_hunt.proofs.ShortLemmas.{AtEnd}
use Rattle.schedule_hunt.proofs.short.shorten.Given as goal

abbrev pub invariant-passes : goal.invariant-passes
invariant-passes l = record {
  part : IsShownPart (program_of l.compiled) l.what l.events l.fn.events;
  needed : AtEnd (program_of l.compiled) l.what l.some l.events;
}

abbrev pub decreases-passes : goal.decreases-passes
decreases-passes l = length l.events + cond l.some 1 0
