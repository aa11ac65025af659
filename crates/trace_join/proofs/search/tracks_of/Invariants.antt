-- So many traces are there, each with its pieces and what it gets again.
use Rattle.std.proofs.Common.{◌≡◌, map, take}
use Rattle.trace_join.proofs.search.tracks_of.Given as goal

abbrev pub invariant-loop-place : goal.invariant-loop-place
invariant-loop-place l =
    (map (λ t. t.left.now) l.tracks ≡ take l.place l.traces)
    × (map (λ t. t.pieces.now) l.tracks ≡ take l.place l.cuts)
    × (map (λ t. t.repeats.now) l.tracks ≡ take l.place l.repeats)
