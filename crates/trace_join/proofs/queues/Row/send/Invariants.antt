-- So many actions were sent.
use Rattle.std.proofs.Common.{◌≡◌, length, take}
use Rattle.trace_join.specs.Sending.{SendsFromOne}
use Rattle.trace_join.proofs.queues.Row.send.Given as goal

abbrev pub invariant-loop-action : goal.invariant-loop-action
invariant-loop-action l = (length l.self ≡ length l.fn.self) × SendsFromOne (take l.action-index l.told) l.fn.self l.self
