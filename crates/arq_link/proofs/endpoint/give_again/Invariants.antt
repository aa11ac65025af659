use Rattle.arq_link.proofs.GiveLaws.{HasGiven}
use Rattle.arq_link.proofs.endpoint.give_again.Given as goal

abbrev pub invariant-loop-place : goal.invariant-loop-place
invariant-loop-place g l = HasGiven l.me l.sessions l.place (g.L.Link.told l.fn.inner) (g.L.Link.told l.inner) (g.L.Link.count l.fn.inner)
    (g.L.Link.count l.inner) (g.L.Link.faults l.fn.inner) (g.L.Link.faults l.inner)
