use Rattle.std.proofs.Common.{◌≡◌, ◌++◌, take, flat_map}
use Rattle.da_unparse.specs.ProgramTexts.{message_text}
use Rattle.da_unparse.proofs.programs.put_messages.Given as goal

abbrev pub invariant-loop-message : goal.invariant-loop-message
invariant-loop-message l = l.out ≡ l.fn.out ++ flat_map message_text (take l.message-index l.messages)
