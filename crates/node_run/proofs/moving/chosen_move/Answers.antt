use Rattle.node_run.proofs.MoveLaws.{goes_on, waits_nowhere}
use Rattle.node_run.proofs.moving.chosen_move.Goals as goal

pub returns-in-Label : goal.returns-in-Label
returns-in-Label c = goes_on c.args.core.now c.place.result c.in-Label.is c.place.ensures.place

pub returns-in-New : goal.returns-in-New
returns-in-New c = waits_nowhere c.args.core.now c.place.result c.in-New.is c.place.ensures.phase
