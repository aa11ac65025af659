use Rattle.arq_link.proofs.SessionLaws.{more_new}
use Rattle.arq_link.proofs.endpoint.new_sessions.Goals as goal

pub loop-process-preserved : goal.loop-process-preserved
loop-process-preserved c = more_new _ _ _ _ c.loop-process.invariant c.new.ensures.is c.new.ensures.kept c.in_ok-push.ensures.ok
