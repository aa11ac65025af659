use Rattle.schedule_hunt.proofs.ShownLaws.{counts_begun, counts_same}
use Rattle.schedule_hunt.proofs.shown.counts_as.Goals as goal

pub returns-then-eq : goal.returns-then-eq
returns-then-eq c = counts_same _ _ _ c.eq.ensures c.if-eq.true

pub returns-else-eq : goal.returns-else-eq
returns-else-eq c = counts_begun _ _ _ _ c.eq.ensures c.if-eq.false c.begins_with.ensures
