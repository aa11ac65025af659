use Rattle.run_page.proofs.RunLemmas.{Came}
use Rattle.run_page.proofs.running.run_events.Given as goal

abbrev pub invariant-loop-place : goal.invariant-loop-place
invariant-loop-place l = Came l.fn.running.asked l.events l.place l.running
