use Rattle.std.proofs.Common.{◌≡◌, ◌-◌}
use Rattle.da_phrases.specs.Exprs.{at_depth, plus_op, product}
use Rattle.da_phrases.specs.Lists.{others, others_from}
use Rattle.da_phrases.proofs.place.Rules.summands.Given as goal

abbrev pub invariant-loop-turn : goal.invariant-loop-turn
invariant-loop-turn g l = others plus_op (product (at_depth l.self.depth)) l.fn.tokens ≡ others_from plus_op (product (at_depth l.self.depth)) (l._turn-end - l._turn) l.found l.tokens
