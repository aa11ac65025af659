use Rattle.std.proofs.Common.{◌≡◌, ◌++◌, length, map}
use Rattle.trace_page.specs.Layout.{processes_of}
use Rattle.trace_page.specs.PageText.{trace_column}
use Rattle.trace_page.proofs.tracing.columns_of.Given as goal

abbrev pub invariant-each : goal.invariant-each
invariant-each l = l.columns ++ map trace_column l.left.keys ≡ map trace_column (processes_of l.actions)

abbrev pub decreases-each : goal.decreases-each
decreases-each l = length l.left.keys
