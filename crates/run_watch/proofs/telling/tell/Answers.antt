use Rattle.std.proofs.Common.{arith}
use Rattle.da_core.specs.Compiled.{program_of}
use Rattle.da_system.specs.SystemStep.{start}
use Rattle.run_watch.specs.Watching.{begun}
use Rattle.run_watch.proofs.TellLemmas.{tells}
use Rattle.run_watch.proofs.telling.tell.Goals as goal

pub begin-requires : goal.begin-requires
begin-requires c = record { compiled = c.requires.watch.compiled; some = omega (arith, c.requires.watch.count) }

pub tell_events-requires : goal.tell_events-requires
tell_events-requires c = record {
  compiled = c.requires.compiled;
  program = c.in_ok-system.ensures.program;
  stands = (start (program_of c.args.compiled.now), c.in_ok-system.ensures.start);
  there = (program_of c.args.watch.now, (begun (program_of c.args.watch.now)).world, c.in_ok-watcher.ensures.come);
}

pub returns : goal.returns
returns c =
    tells (program_of c.args.compiled.now) (program_of c.args.watch.now) c.args.events.now _ _ _ _ _ _ _ _ c.outcome_at.ensures c.in_ok-watcher.ensures.added c.new-begins.ensures c.as_slice.ensures c.new-lines.ensures c.in_ok-put_said.ensures
    (c.in_ok-stop.ensures (start (program_of c.args.compiled.now)) c.in_ok-system.ensures.start (program_of c.args.watch.now) (begun (program_of c.args.watch.now)).world c.in_ok-watcher.ensures.come)
