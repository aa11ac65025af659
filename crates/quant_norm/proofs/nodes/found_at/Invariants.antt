use Rattle.quant_norm.proofs.PrintLaws.{Searches}
use Rattle.quant_norm.proofs.nodes.found_at.Given as goal

abbrev pub invariant-loop-place : goal.invariant-loop-place
invariant-loop-place l = Searches l.node l.nodes l.place
