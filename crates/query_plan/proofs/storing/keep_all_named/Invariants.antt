use Rattle.std.proofs.Common.{◌≡◌, take}
use Rattle.query_plan.specs.Storing.{named_kept}
use Rattle.query_plan.proofs.storing.keep_all_named.Given as goal

abbrev pub invariant-loop-entry : goal.invariant-loop-entry
invariant-loop-entry l = l.kept ≡ named_kept l.fn.kept (take l.entry-index l.entries)
