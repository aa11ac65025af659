use Rattle.std.specs.Prelude.{◌-◌}
use Rattle.arq_link.proofs.WaitingLaws.{HasDropped}
use Rattle.arq_link.proofs.session.drop_below.Given as goal

abbrev pub decreases-loop-first : goal.decreases-loop-first
decreases-loop-first l = l.number - l.first

abbrev pub invariant-loop-first : goal.invariant-loop-first
invariant-loop-first l = HasDropped l.number l.initial.first l.initial.waiting.items l.first l.waiting.items
