use Rattle.std.proofs.Common.{◌≡◌, take, flat_map}
use Rattle.da_lang.specs.declared.refusal.LimitKind.TheVariants as limit
use Rattle.da_lang.specs.Limits.{parts_in_message}
use Rattle.da_limits.specs.LimitLines.{told_at}
use Rattle.da_limits.proofs.tree.tell_messages.Given as goal

abbrev pub invariant-loop-message : goal.invariant-loop-message
invariant-loop-message l = l.least ≡ told_at limit.Parts l.initial.least (flat_map parts_in_message (take l.message-index l.messages))
