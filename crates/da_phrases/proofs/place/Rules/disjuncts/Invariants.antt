use Rattle.std.proofs.Common.{◌≡◌, ◌-◌}
use Rattle.da_values.specs.declared.token.Mark.TheVariants as m
use Rattle.da_phrases.specs.Exprs.{at_depth, conjunction}
use Rattle.da_phrases.specs.Lists.{separated, separated_from}
use Rattle.da_phrases.proofs.place.Rules.disjuncts.Given as goal

abbrev pub invariant-loop-turn : goal.invariant-loop-turn
invariant-loop-turn g l = separated m.Or (conjunction (at_depth l.self.depth)) l.fn.found l.fn.tokens ≡ separated_from m.Or (conjunction (at_depth l.self.depth)) (l._turn-end - l._turn) l.found l.tokens
