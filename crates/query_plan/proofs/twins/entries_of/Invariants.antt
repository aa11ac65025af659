use Rattle.std.proofs.Common.{◌≡◌, length}
use Rattle.query_plan.specs.Storing.{AreEntries}
use Rattle.query_plan.proofs.twins.entries_of.Given as goal

abbrev pub invariant-loop-i : goal.invariant-loop-i
invariant-loop-i l = (length l.entries ≡ l.i) × AreEntries l.nodes l.entries
