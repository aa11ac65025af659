use Rattle.std.proofs.Common.{◌≡◌, replicate}
use Rattle.da_system.proofs.counts.so_many_rows.Given as goal

abbrev pub invariant-loop-place : goal.invariant-loop-place
invariant-loop-place l = l.rows.items ≡ replicate l._place (replicate l.count 0)
