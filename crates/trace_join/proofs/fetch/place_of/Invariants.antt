-- So far no message is the one.
use Rattle.std.proofs.Common.{take}
use Rattle.da_values.specs.Sets.{Has}
use Rattle.trace_join.specs.Fetching.{message_in}
use Rattle.trace_join.proofs.fetch.place_of.Given as goal

abbrev pub invariant-loop-place : goal.invariant-loop-place
invariant-loop-place l = Has (take l.place l.queue) (message_in l.got) → ⊥
