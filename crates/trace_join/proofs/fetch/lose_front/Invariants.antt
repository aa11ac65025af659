-- So many were lost.
use Rattle.std.proofs.Common.{◌≡◌, ◌++◌, ◌≤◌, drop, length, replicate}
use Rattle.da_lang.specs.declared.event.Event.TheVariants.{Lose}
use Rattle.trace_join.proofs.fetch.lose_front.Given as goal

abbrev pub invariant-loop-place : goal.invariant-loop-place
invariant-loop-place l =
    (l._place ≤ l.count) × (l.count ≤ length l.initial.queue)
    × (l.queue ≡ drop l._place l.initial.queue) × (l.events ≡ l.initial.events ++ replicate l._place (Lose l.wanted.from l.wanted.to 1))
