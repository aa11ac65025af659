use Rattle.run_watch.proofs.WatchLemmas.{quiet_is}
use Rattle.run_watch.proofs.watcher.quiet_message.Goals as goal

pub returns : goal.returns
returns c = quiet_is _ _ _ c.in_ok-word.ensures c.new-parts.ensures c.in_ok-push.ensures.ok
