use Rattle.std.proofs.Common.{◌≡◌, false}
use Rattle.da_lang.specs.declared.program.Program.{Program}
use Rattle.da_lang.specs.Runs.{max_turns}
use Rattle.da_lang.specs.World.{World}
use Rattle.run_watch.specs.Beside.{HasCome}
use Rattle.run_watch.proofs.MoveLemmas.{Settles}
use Rattle.run_watch.proofs.watcher.Watcher.settle.Given as goal

abbrev pub invariant-loop-turn : goal.invariant-loop-turn
invariant-loop-turn l = record {
  unworn : l.self.worn ≡ false;
  so : (program : Program) (w : World) → HasCome program w l.fn.self → Settles program max_turns w l._turn l.self l.fn.out l.out;
}
