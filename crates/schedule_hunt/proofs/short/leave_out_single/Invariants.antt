use Rattle.std.proofs.Common.{◌≤◌, length}
use Rattle.da_core.specs.Compiled.{program_of}
use Rattle.schedule_hunt.specs.Shortening.{IsShownPart}
use Rattle.schedule_hunt.proofs.ShortLemmas.{Passed}
use Rattle.schedule_hunt.proofs.short.leave_out_single.Given as goal

abbrev pub invariant-places : goal.invariant-places
invariant-places l = record {
  part : IsShownPart (program_of l.compiled) l.what l.events l.initial.events;
  inside : l.place ≤ length l.events;
  passed : Passed (program_of l.compiled) l.what l.some l.place l.initial.events l.events;
}

abbrev pub decreases-places : goal.decreases-places
decreases-places l = l.place
