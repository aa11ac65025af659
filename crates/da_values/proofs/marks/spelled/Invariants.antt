use Rattle.std.proofs.Common.{◌≡◌, length}
use Rattle.da_values.specs.Entries.{entries}
use Rattle.da_values.specs.Words.{spelled}
use Rattle.da_values.proofs.marks.spelled.Given as goal

abbrev pub invariant-loop-table : goal.invariant-loop-table
invariant-loop-table l = spelled (entries l.table) l.text ≡ spelled (entries l.initial.table) l.text

abbrev pub decreases-loop-table : goal.decreases-loop-table
decreases-loop-table l = length l.table
