use Rattle.std.proofs.Common.{◌≡◌, ◌≤◌, length, take}
use Rattle.query_plan.proofs.twins.begins.Given as goal

abbrev pub invariant-loop-place : goal.invariant-loop-place
invariant-loop-place l = (length l.front ≤ length l.all) × (take l.place l.all ≡ take l.place l.front)
