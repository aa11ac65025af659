use Rattle.da_lang.specs.declared.program.Program.{Program}
use Rattle.da_lang.specs.World.{World}
use Rattle.run_watch.specs.Beside.{HasCome}
use Rattle.run_watch.proofs.WatchLemmas.{Hears}
use Rattle.run_watch.proofs.watcher.Watcher.hear.Given as goal

abbrev pub invariant-loop-action : goal.invariant-loop-action
invariant-loop-action l = (program : Program) (w : World) → HasCome program w l.fn.self → Hears program w l.actions l.action-index l.self l.fn.out l.out
