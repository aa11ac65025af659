use Rattle.std.proofs.Common.{refl}
use Rattle.da_core.specs.Compiled.{program_of}
use Rattle.da_lang.specs.World.{opening}
use Rattle.run_watch.proofs.MoveLemmas.{begun_as}
use Rattle.run_watch.proofs.WatchLemmas.{come_first}
use Rattle.run_watch.proofs.watcher.Watcher.begin.Goals as goal

pub settle-requires : goal.settle-requires
settle-requires c =
    let program = program_of c.args.compiled.now in
    let w = opening program c.last_process-me.result in
    record {
      there = (program, w, come_first program _ refl c.in_ok-core.ensures.program w c.last_process-me.ensures c.last_process-me.ensures refl c.in_ok-core.ensures.stands);
      unworn = refl;
    }

pub returns : goal.returns
returns c =
    let program = program_of c.args.compiled.now in
    let w = opening program c.last_process-me.result in
    begun_as program c.last_process-me.result _ _ _ c.last_process-me.ensures
    (c.in_ok-settle.ensures program w (come_first program _ refl c.in_ok-core.ensures.program w c.last_process-me.ensures c.last_process-me.ensures refl c.in_ok-core.ensures.stands))
