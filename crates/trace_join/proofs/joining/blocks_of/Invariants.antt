-- The blocks so far, and those of what is left to look at.
use Rattle.std.proofs.Common.{◌≡◌, ◌++◌, ◌+◌, drop, map}
use Rattle.trace_join.specs.Blocks.{blocks_left}
use Rattle.trace_join.proofs.joining.blocks_of.Given as goal

abbrev pub invariant-loop-place : goal.invariant-loop-place
invariant-loop-place l =
    map (λ b. (b.process, b.line)) l.blocks ++ blocks_left (l.place + 1) (drop l.place l.traces) (drop l.place (map (λ t. t.left.now) l.tracks))
    ≡ blocks_left 1 l.traces (map (λ t. t.left.now) l.tracks)
