use Rattle.std.proofs.Common.{◌≡◌, take}
use Rattle.da_system.specs.Channels.{after_actions}
use Rattle.da_system.specs.Queues.{Each, StandsFor, count_of}
use Rattle.da_system.proofs.channels.Channels.post.Given as goal

abbrev pub invariant-loop-action : goal.invariant-loop-action
invariant-loop-action l = (count_of l.self ≡ count_of l.fn.self) × Each l.fn.self (λ channels. StandsFor l.self (after_actions channels (take l.action-index l.actions)))
