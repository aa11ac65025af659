use Rattle.std.proofs.Common.{arith}
use Rattle.arq_link.proofs.endpoint.Endpoint.new.Goals as goal

pub invariant_of-result-clause-few : goal.invariant_of-result-clause-few
invariant_of-result-clause-few c = omega (arith, c.in_ok-new_sessions.ensures.count, c.requires)

pub invariant_of-result-clause-kept : goal.invariant_of-result-clause-kept
invariant_of-result-clause-kept c = c.in_ok-new_sessions.ensures.kept c.args.me
