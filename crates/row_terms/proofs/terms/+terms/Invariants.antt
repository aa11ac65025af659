use Rattle.std.proofs.Common.{◌≡◌, take, map}
use Rattle.da_lang.specs.Matching.{term_value}
use Rattle.row_terms.proofs.terms.+terms.Given as goal

abbrev pub invariant-term_values-loop-term : goal.invariant-term_values-loop-term
invariant-term_values-loop-term l = l.values ≡ map (term_value l.locals.me l.locals.slots.now l.row) (take l.term-index l.terms)
