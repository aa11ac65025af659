use Rattle.std.proofs.Common.{◌≡◌, length}
use Rattle.query_plan.proofs.storing.none_kept.Given as goal

abbrev pub invariant-loop-node : goal.invariant-loop-node
invariant-loop-node l = length l.kept ≡ l._node
