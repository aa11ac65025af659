use Rattle.run_page.proofs.RemarkLemmas.{DigitsUpTo}
use Rattle.run_page.proofs.remarks.digits_of.Given as goal

abbrev pub invariant-loop-place : goal.invariant-loop-place
invariant-loop-place l = DigitsUpTo l.text l.place
