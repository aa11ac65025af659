use Rattle.arq_link.proofs.SessionLaws.{count_none}
use Rattle.arq_link.proofs.link.ArqLink.new.Goals as goal

pub invariant_of-result-clause-reached : goal.invariant_of-result-clause-reached
invariant_of-result-clause-reached g c = count_none _ _ c.unbound.ensures.none
