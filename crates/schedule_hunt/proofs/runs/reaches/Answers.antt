use Rattle.schedule_hunt.proofs.WatchLaws.{reaches_as, watch_may}
use Rattle.schedule_hunt.proofs.runs.reaches.Goals as goal

pub returns-in-Shown : goal.returns-in-Shown
returns-in-Shown c = reaches_as _ _ _ _ c.shows.result c.in-Shown.is c.shows.ensures

pub is_broken-requires : goal.is_broken-requires
is_broken-requires c = record { compiled = c.requires.compiled; watch = watch_may _ _ _ c.in-Watched.is c.requires.goal; program = c.requires.program; ready = c.requires.ready; unspent = c.requires.unspent }

pub returns-in-Watched : goal.returns-in-Watched
returns-in-Watched c = reaches_as _ _ _ _ c.is_broken.result c.in-Watched.is c.is_broken.ensures
