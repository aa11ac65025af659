use Rattle.da_limits.proofs.ClassExtentRules.{handler_made}
use Rattle.da_limits.proofs.classes.handler_extent.Goals as goal

pub returns : goal.returns
returns c = λ labels line. handler_made _ _ _ labels _ line _ _ _ _ _ c.bound_in.ensures c.bound_by_from.ensures c.saturating_add-count.ensures c.block.ensures c.wider.ensures
