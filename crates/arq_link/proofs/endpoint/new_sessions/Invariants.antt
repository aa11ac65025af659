use Rattle.arq_link.proofs.SessionLaws.{AreNew}
use Rattle.arq_link.proofs.endpoint.new_sessions.Given as goal

abbrev pub invariant-loop-process : goal.invariant-loop-process
invariant-loop-process l = AreNew l.sessions l._process
