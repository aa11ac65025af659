use Rattle.schedule_hunt.proofs.WatchLaws.{watch_may, watch_there}
use Rattle.schedule_hunt.proofs.remark.words_of.Goals as goal

pub words_of_watch-requires : goal.words_of_watch-requires
words_of_watch-requires c = record { compiled = (watch_may _ _ _ c.in-Watched.is c.requires.goal).compiled; some = watch_there _ _ _ c.in-Watched.is c.requires.goal }
