use Rattle.std.proofs.Common.{◌≡◌, map, take}
use Rattle.da_lang.specs.ExprMeaning.{meant}
use Rattle.da_meaning.proofs.term.+terms.Given as goal

abbrev pub invariant-terms-loop-x : goal.invariant-terms-loop-x
invariant-terms-loop-x l = l.found ≡ map (λ x. (meant x).term l.scope) (take l.x-index l.xs)
