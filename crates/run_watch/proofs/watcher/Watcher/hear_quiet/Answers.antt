use Rattle.run_watch.proofs.WatchLemmas.{quiet_hears}
use Rattle.run_watch.proofs.watcher.Watcher.hear_quiet.Goals as goal

pub returns : goal.returns
returns c = λ program w come. quiet_hears program w _ _ _ _ _ come.me c.in_ok-message.ensures (c.in_ok-take.ensures program w come)
