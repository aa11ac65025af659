use Rattle.std.proofs.Common.{ap, refl}
use Rattle.arq_link.specs.declared.endpoint.Endpoint.{Endpoint}
use Rattle.arq_link.proofs.LinkLaws.{lent_is}
use Rattle.arq_link.proofs.SessionLaws.{count_none}
use Rattle.arq_link.proofs.link.ArqLink.inner.Goals as goal

pub invariant_of-self-clause-reached : goal.invariant_of-self-clause-reached
invariant_of-self-clause-reached g c = count_none _ _ (ap (λ (e : Endpoint). e.sessions) c.forget.ensures)

pub returns : goal.returns
returns g c = ((refl, λ w. lent_is c.args.self.now w c.forget.new.self c.forget.ensures _), record { lends = tt; is = refl })
