use Rattle.std.specs.Prelude.{None, Some}
use Rattle.run_watch.proofs.MoveLemmas.{first_of, wears, wears_not}
use Rattle.run_watch.proofs.watcher.Watcher.wear_out.Goals as goal

pub returns-in_default : goal.returns-in_default
returns-in_default c = λ program w come. wears_not program w _ _ (first_of program w c.args.self.now None come c.requires (rw c.in_default.is at c.first_move-found.ensures)) come

pub returns : goal.returns
returns c = λ program w come.
    wears program w c.args.self.now c.in-Some.field-0 c.fault-fault.result _ _ (first_of program w c.args.self.now (Some c.in-Some.field-0) come c.requires (rw c.in-Some.is at c.first_move-found.ensures)) come c.fault-fault.ensures c.in_ok-push.ensures.ok
