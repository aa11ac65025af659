use Rattle.std.proofs.Common.{◌≡◌}
use Rattle.da_lang.specs.declared.program.Program.{Program}
use Rattle.da_lang.specs.World.{World}
use Rattle.da_core.specs.Compiled.{program_of}
use Rattle.da_system.specs.State.{Whichever}
use Rattle.da_system.specs.State as system
use Rattle.run_watch.specs.Beside.{HasCome}
use Rattle.run_watch.proofs.TellLemmas.{ToldTo}
use Rattle.run_watch.proofs.telling.tell_events.Given as goal

abbrev pub invariant-loop-place : goal.invariant-loop-place
invariant-loop-place l = record {
  program : system.program_of l.system ≡ program_of l.compiled;
  told : Whichever l.fn.system (λ s. (watch : Program) (w : World) → HasCome watch w l.fn.watcher → ToldTo (program_of l.compiled) watch s w l.events l.place l.system l.watcher l.fn.lines l.lines);
}
