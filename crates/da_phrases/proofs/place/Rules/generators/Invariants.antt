use Rattle.std.proofs.Common.{◌≡◌, ◌-◌}
use Rattle.da_values.specs.declared.token.Mark.TheVariants as m
use Rattle.da_phrases.specs.Exprs.{at_depth, generator, generators}
use Rattle.da_phrases.specs.Lists.{separated_from}
use Rattle.da_phrases.proofs.place.Rules.generators.Given as goal

abbrev pub invariant-loop-turn : goal.invariant-loop-turn
invariant-loop-turn g l = generators (at_depth l.self.depth) l.fn.tokens ≡ separated_from m.Comma (generator (at_depth l.self.depth)) (l._turn-end - l._turn) l.found l.tokens
