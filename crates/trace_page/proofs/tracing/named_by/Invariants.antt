use Rattle.std.proofs.Common.{◌≡◌, drop}
use Rattle.std.specs.List.{flat_map}
use Rattle.std.specs.Prelude.{[]}
use Rattle.trace_page.specs.Layout.{named_in, with_numbers}
use Rattle.trace_page.proofs.tracing.named_by.Given as goal

abbrev pub invariant-loop-action : goal.invariant-loop-action
invariant-loop-action l = with_numbers [] (flat_map named_in l.actions) ≡ with_numbers l.processes.keys (flat_map named_in (drop l.action-index l.actions))
