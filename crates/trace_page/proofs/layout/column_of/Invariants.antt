use Rattle.std.proofs.Common.{◌≡◌, ◌≤◌, take}
use Rattle.trace_page.specs.Layout.{column_in}
use Rattle.trace_page.proofs.layout.column_of.Given as goal

abbrev pub invariant-loop-column : goal.invariant-loop-column
invariant-loop-column l = record {
  value : l.before ≡ column_in (take l.column-index l.column-items) l.p;
  within : l.before ≤ l.column-index;
}
