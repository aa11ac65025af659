use Rattle.std.proofs.Common.{◌≡◌, take}
use Rattle.da_lang.proofs.copy.+terms.Given as goal

abbrev pub invariant-copy_terms-loop-term : goal.invariant-copy_terms-loop-term
invariant-copy_terms-loop-term l = l.copy ≡ take l.term-index l.terms
