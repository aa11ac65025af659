use Rattle.std.proofs.Common.{◌≡◌, length}
use Rattle.da_values.specs.Entries.{entries}
use Rattle.da_values.specs.Words.{at_front}
use Rattle.da_values.proofs.marks.at_front.Given as goal

abbrev pub invariant-loop-table : goal.invariant-loop-table
invariant-loop-table l = at_front (entries l.table) l.text ≡ at_front (entries l.initial.table) l.text

abbrev pub decreases-loop-table : goal.decreases-loop-table
decreases-loop-table l = length l.table
