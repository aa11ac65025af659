use Rattle.da_core.specs.Compiled.{program_of}
use Rattle.run_watch.specs.Watching.{begun}
use Rattle.schedule_hunt.proofs.remark.words_of_watch.Goals as goal

pub first_complaint-requires : goal.first_complaint-requires
first_complaint-requires c = (program_of c.args.watch.now, (begun (program_of c.args.watch.now)).world, c.in_ok-watcher.ensures.come)
