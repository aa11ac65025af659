use Rattle.std.proofs.Common.{ap, ◌∙◌}
use Rattle.da_values.specs.Views.{elements_of}
use Rattle.row_pool.proofs.pool.Pool.set_of.Goals as goal

pub returns : goal.returns
returns c = c.set_in.ensures ∙ ap elements_of c.in_ok-v.ensures
