use Rattle.schedule_pick.proofs.PickLemmas.{falls_none, falls_some}
use Rattle.schedule_pick.proofs.strategy.falls_by_turn.Goals as goal

pub returns-then-turn-eq0 : goal.returns-then-turn-eq0
returns-then-turn-eq0 c = falls_none c.args.turn c.if-turn-eq0.true

pub returns : goal.returns
returns c = falls_some c.args.turn c.if-turn-eq0.false
