use Rattle.std.proofs.Common.{refl}
use Rattle.arq_link.proofs.HearLaws.{expects}
use Rattle.arq_link.proofs.endpoint.Endpoint.expect.Goals as goal

pub returns-clause-peers : goal.returns-clause-peers
returns-clause-peers c = expects c.args.number c.args.place _ _ _ _ _ _ c.replace-session.ensures.value c.replace-session.ensures.put c.set.ensures refl
