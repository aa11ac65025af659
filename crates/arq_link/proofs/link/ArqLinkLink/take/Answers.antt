use Rattle.std.proofs.Common.{arith}
use Rattle.arq_link.specs.Kept.{endpoint_of}
use Rattle.arq_link.proofs.ResultLaws.{on_err}
use Rattle.arq_link.proofs.ToldLaws.{failed_carried, failed_take_tells, taken_carried, taken_tells}
use Rattle.arq_link.proofs.link.ArqLinkLink.take.Goals as goal

pub invariant_of-self : goal.invariant_of-self
invariant_of-self g c = record {
  reached = omega (arith, c.take.ensures.sessions, c.take.ensures.count, c.args.self.now.reached);
  stands = (failed_take_tells c.args.self.now.telling _ c.args.self.now.endpoint.me c.take.new.self.me
      (endpoint_of c.args.self.now.endpoint) _ _ _ c.args.self.now.stands c.after_failure-self.ensures
      c.in_err-taken.ensures.failed).0;
}

pub returns-in_err-taken-clause-same : goal.returns-in_err-taken-clause-same
returns-in_err-taken-clause-same g c = on_err c.from_residual.result _
    (failed_take_tells c.args.self.now.telling _ c.args.self.now.endpoint.me c.take.new.self.me (endpoint_of c.args.self.now.endpoint) _ _ _
    c.args.self.now.stands c.after_failure-self.ensures c.in_err-taken.ensures.failed).1

pub returns-in_err-taken-clause-carries : goal.returns-in_err-taken-clause-carries
returns-in_err-taken-clause-carries g c = failed_carried _ _ _ _ _ c.in_err-taken.ensures.failed

pub invariant_of-self-2-clause-reached : goal.invariant_of-self-2-clause-reached
invariant_of-self-2-clause-reached g c = omega (arith, c.take.ensures.sessions, c.take.ensures.count, c.args.self.now.reached)

pub invariant_of-self-2-clause-stands : goal.invariant_of-self-2-clause-stands
invariant_of-self-2-clause-stands g
    c = (taken_tells c.args.self.now.telling _ c.args.self.now.endpoint.me c.take.new.self.me
    (endpoint_of c.args.self.now.endpoint) _ _ _ c.args.self.now.stands c.after_call-self.ensures
    c.take.ensures.me _ c.in_ok-taken.ensures.taken).0

pub returns-clause-adds : goal.returns-clause-adds
returns-clause-adds g c = (taken_tells c.args.self.now.telling _ c.args.self.now.endpoint.me c.take.new.self.me
    (endpoint_of c.args.self.now.endpoint) _ _ _ c.args.self.now.stands c.after_call-self.ensures
    c.take.ensures.me _ c.in_ok-taken.ensures.taken).1

pub returns-clause-carries : goal.returns-clause-carries
returns-clause-carries g c = taken_carried _ _ _ _ _ _ c.in_ok-taken.ensures.taken
