use Rattle.std.proofs.Common.{refl}
use Rattle.row_pool.proofs.sets.take_from_cell.Goals as goal

pub returns-clause-shrinks : goal.returns-clause-shrinks
returns-clause-shrinks c = record { value = c.take_element.ensures; there = c.remove-part.ensures.value; parts = c.remove-part.ensures.rest; holders = refl; number = refl }
