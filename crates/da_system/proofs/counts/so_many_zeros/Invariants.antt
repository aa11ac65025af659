use Rattle.std.proofs.Common.{◌≡◌, replicate}
use Rattle.da_system.proofs.counts.so_many_zeros.Given as goal

abbrev pub invariant-loop-place : goal.invariant-loop-place
invariant-loop-place l = l.zeros ≡ replicate l._place 0
