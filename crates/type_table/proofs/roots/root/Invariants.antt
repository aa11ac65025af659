use Rattle.std.proofs.Common.{◌<◌, length}
use Rattle.type_table.specs.Links.{Found}
use Rattle.type_table.proofs.roots.root.Given as goal

abbrev pub invariant-loop-next : goal.invariant-loop-next
invariant-loop-next l = (l.at < length l.forms) × Found l.initial.forms l.number l.forms l.at

abbrev pub decreases-loop-next : goal.decreases-loop-next
decreases-loop-next l = l.at
