use Rattle.da_core.proofs.Asking.{HasAnswered}
use Rattle.da_core.proofs.answers.tell_answers.Given as goal

abbrev pub invariant-loop-place : goal.invariant-loop-place
invariant-loop-place l = HasAnswered l.known l.initial.out l.out l.place
