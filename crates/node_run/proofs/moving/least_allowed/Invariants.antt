use Rattle.node_run.proofs.MoveLaws.{Tried}
use Rattle.node_run.proofs.moving.least_allowed.Given as goal

abbrev pub invariant-loop-place : goal.invariant-loop-place
invariant-loop-place l = Tried l.core l.count l.place
