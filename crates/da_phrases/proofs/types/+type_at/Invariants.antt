use Rattle.std.proofs.Common.{◌-◌}
use Rattle.da_phrases.proofs.types.+type_at.Given as goal

abbrev pub decreases-type_at : goal.decreases-type_at
decreases-type_at l = 32 - l.depth
