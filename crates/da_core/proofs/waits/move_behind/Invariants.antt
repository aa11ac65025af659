use Rattle.std.proofs.Common.{◌≡◌, ◌++◌, length}
use Rattle.std.specs.Prelude.{reverse}
use Rattle.da_core.proofs.waits.move_behind.Given as goal

abbrev pub invariant-loop-own : goal.invariant-loop-own
invariant-loop-own l = l.waits ++ reverse l.more ≡ l.fn.waits ++ l.fn.more

abbrev pub decreases-loop-own : goal.decreases-loop-own
decreases-loop-own l = length l.more
