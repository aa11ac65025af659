use Rattle.std.proofs.Common.{◌≡◌, ◌-◌, length}
use Rattle.query_plan.specs.Storing.{read_down}
use Rattle.query_plan.proofs.storing.keep_all_read.Given as goal

abbrev pub invariant-loop-done : goal.invariant-loop-done
invariant-loop-done l = read_down (length l.nodes - l.done) l.nodes l.kept ≡ read_down (length l.nodes) l.nodes l.fn.kept
