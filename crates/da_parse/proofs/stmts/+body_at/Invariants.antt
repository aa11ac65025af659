use Rattle.std.proofs.Common.{◌-◌}
use Rattle.da_parse.proofs.stmts.+body_at.Given as goal

abbrev pub decreases-body_at : goal.decreases-body_at
decreases-body_at l = 32 - l.depth
