use Rattle.std.proofs.Common.{◌≡◌, ◌-◌}
use Rattle.da_phrases.specs.Exprs.{at_depth, times_op, unary}
use Rattle.da_phrases.specs.Lists.{others, others_from}
use Rattle.da_phrases.proofs.place.Rules.factors.Given as goal

abbrev pub invariant-loop-turn : goal.invariant-loop-turn
invariant-loop-turn g l = others times_op (unary (at_depth l.self.depth)) l.fn.tokens ≡ others_from times_op (unary (at_depth l.self.depth)) (l._turn-end - l._turn) l.found l.tokens
