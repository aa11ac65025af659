use Rattle.std.proofs.Common.{◌≡◌, take}
use Rattle.da_values.specs.Value.{vals}
use Rattle.row_pool.specs.Marks.{mark_of_set}
use Rattle.row_pool.proofs.marks.sum_of.Given as goal

abbrev pub invariant-loop-element : goal.invariant-loop-element
invariant-loop-element l = l.sum ≡ mark_of_set (vals (take l.element-index l.elements))
