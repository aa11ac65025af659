use Rattle.std.proofs.Common.{arith}
use Rattle.arq_link.specs.Kept.{endpoint_of}
use Rattle.arq_link.proofs.ToldLaws.{given_tells}
use Rattle.arq_link.proofs.link.ArqLinkLink.give.Goals as goal

pub invariant_of-self-2-clause-reached : goal.invariant_of-self-2-clause-reached
invariant_of-self-2-clause-reached g c = omega (arith, c.give.ensures.sessions, c.give.ensures.count, c.args.self.now.reached)

pub invariant_of-self-2-clause-stands : goal.invariant_of-self-2-clause-stands
invariant_of-self-2-clause-stands g
    c = (given_tells c.args.self.now.telling _ c.args.self.now.endpoint.me c.give.new.self.me
    (endpoint_of c.args.self.now.endpoint) _ _ _ c.args.self.now.stands c.after_call-self.ensures
    c.give.ensures.me c.args.to _ c.if-not-has_number.ensures c.in_ok-give.ensures.given).0
