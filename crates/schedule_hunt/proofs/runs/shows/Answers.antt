use Rattle.schedule_hunt.proofs.RunLemmas.{shown_stuck}
use Rattle.schedule_hunt.proofs.runs.shows.Goals as goal

pub returns-in-Stuck : goal.returns-in-Stuck
returns-in-Stuck c = shown_stuck _ _ _ _ c.is_stuck.result c.in-Stuck.is c.as_slice-actions.ensures c.requires.program c.is_stuck.ensures
