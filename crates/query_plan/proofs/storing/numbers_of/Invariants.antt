use Rattle.std.proofs.Common.{◌≡◌, ◌++◌, drop}
use Rattle.query_plan.specs.Storing.{ranks}
use Rattle.query_plan.proofs.storing.numbers_of.Given as goal

abbrev pub invariant-loop-stays : goal.invariant-loop-stays
invariant-loop-stays l = l.numbers ++ ranks l.count (drop l.stays-index l.kept) ≡ ranks 0 l.kept
