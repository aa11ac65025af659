-- So many actions were looked at.
use Rattle.std.proofs.Common.{◌≡◌, length, take}
use Rattle.trace_join.specs.Waiting.{AreWoken}
use Rattle.trace_join.proofs.wake.wake.Given as goal

abbrev pub invariant-loop-action : goal.invariant-loop-action
invariant-loop-action l = (length l.waits ≡ length l.initial.waits) × AreWoken l.me (take l.action-index l.told) l.tracks l.initial.waits l.waits
