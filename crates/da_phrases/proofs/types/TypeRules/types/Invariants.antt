use Rattle.std.proofs.Common.{◌≡◌, ◌-◌}
use Rattle.da_values.specs.declared.token.Mark.TheVariants as m
use Rattle.da_phrases.specs.Lists.{separated, separated_from}
use Rattle.da_phrases.specs.Types.{type_below}
use Rattle.da_phrases.proofs.types.TypeRules.types.Given as goal

abbrev pub invariant-loop-turn : goal.invariant-loop-turn
invariant-loop-turn g l = separated m.Comma (type_below l.self.depth) l.fn.found l.fn.tokens ≡ separated_from m.Comma (type_below l.self.depth) (l._turn-end - l._turn) l.found l.tokens
