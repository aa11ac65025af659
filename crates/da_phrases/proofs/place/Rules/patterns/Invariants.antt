use Rattle.std.proofs.Common.{◌≡◌, ◌-◌}
use Rattle.da_values.specs.declared.token.Mark.TheVariants as m
use Rattle.da_phrases.specs.Exprs.{at_depth}
use Rattle.da_phrases.specs.Lists.{separated, separated_from}
use Rattle.da_phrases.proofs.place.Rules.patterns.Given as goal

abbrev pub invariant-loop-turn : goal.invariant-loop-turn
invariant-loop-turn g l = separated m.Comma (at_depth l.self.depth).pattern l.fn.found l.fn.tokens ≡ separated_from m.Comma (at_depth l.self.depth).pattern (l._turn-end - l._turn) l.found l.tokens
