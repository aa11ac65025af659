-- The range in which it may stand.
use Rattle.std.proofs.Common.{◌-◌, ◌≤◌, length}
use Rattle.trace_join.proofs.fetch.place_by_time.Given as goal

abbrev pub invariant-loop-low : goal.invariant-loop-low
invariant-loop-low l = (l.low ≤ l.high) × (l.high ≤ length l.queue)

abbrev pub decreases-loop-low : goal.decreases-loop-low
decreases-loop-low l = l.high - l.low
