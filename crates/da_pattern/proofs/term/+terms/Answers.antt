use Rattle.da_pattern.proofs.TermsAt.{other_kind, same_tuple, terms_end}
use Rattle.da_pattern.proofs.term.+terms.Goals as goal

pub are_terms-returns : goal.are_terms-returns
are_terms-returns t c = terms_end _ c.args.terms.now c.args.values.now c.loop-t.left.now c.loop-t.t-index _ c.loop-t-test.false c.loop-t.invariant c.is_empty.ensures

pub is_term-returns-in-Tuple-v : goal.is_term-returns-in-Tuple-v
is_term-returns-in-Tuple-v t c = same_tuple _ _ _ c.args.t.now c.args.v.now _ c.in-Tuple.is c.in-Tuple-v.values c.as_slice.result.now _ _ c.in-Tuple-v.is c.as_slice.ensures c.as_slice-in-Tuple-v.ensures c.are_terms.ensures

pub is_term-returns-in_default : goal.is_term-returns-in_default
is_term-returns-in_default t c = other_kind _ _ _ c.args.t.now c.args.v.now _ c.in-Tuple.is c.in_default.not-Tuple
