use Rattle.std.proofs.Common.{◌≡◌, ◌≤◌, ◌+◌, length}
use Rattle.run_page.proofs.ColumnLemmas.{ColumnsUpTo}
use Rattle.run_page.proofs.showing.columns_of.Given as goal

abbrev pub invariant-loop-decl : goal.invariant-loop-decl
invariant-loop-decl l = record {
  columns : ColumnsUpTo l.program l.decl-index l.columns;
  process : l.process ≡ l.decl-index + 1;
  within : l.decl-index ≤ length l.decl-items;
}
