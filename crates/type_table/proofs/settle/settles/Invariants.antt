use Rattle.std.proofs.Common.{◌-◌, ◌+◌, length, if◌then◌else◌}
use Rattle.type_table.specs.Settling.{marked}
use Rattle.type_table.proofs.SettleLaws.{Settling}
use Rattle.type_table.proofs.settle.settles.Given as goal

abbrev pub invariant-loop-more : goal.invariant-loop-more
invariant-loop-more l = Settling l.forms l.marks.items l.more

abbrev pub decreases-loop-more : goal.decreases-loop-more
decreases-loop-more l = (length l.forms - marked l.marks.items) + (if l.more then 1 else 0)
