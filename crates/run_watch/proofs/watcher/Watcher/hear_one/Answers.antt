use Rattle.run_watch.proofs.WatchLemmas.{out_hears, unhanded_hears}
use Rattle.run_watch.proofs.watcher.Watcher.hear_one.Goals as goal

pub returns-in_default : goal.returns-in_default
returns-in_default c = λ program w come. unhanded_hears program w _ c.args.action.now _ (λ p v is. c.in_default.not-Out p v is) come

pub returns : goal.returns
returns c = λ program w come. out_hears program w _ _ _ _ _ _ c.in-Out.is (c.in_ok-take.ensures program w come)
