-- None of those that were looked at gets it.
use Rattle.std.proofs.Common.{take}
use Rattle.trace_join.specs.Repeats.{IsGotAgain}
use Rattle.trace_join.proofs.repeats.gets.Given as goal

abbrev pub invariant-loop-action : goal.invariant-loop-action
invariant-loop-action l = IsGotAgain l.got (take l.action-index l.actions) → ⊥
