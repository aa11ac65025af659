use Rattle.std.proofs.Common.{◌≡◌, ◌-◌, []}
use Rattle.da_values.specs.declared.token.Mark.TheVariants as m
use Rattle.da_phrases.specs.Lists.{separated, separated_from}
use Rattle.da_parse.specs.Members.{param_by}
use Rattle.da_phrases.specs.Types.{type_below}
use Rattle.da_parse.proofs.members.some_params.Given as goal

abbrev pub invariant-loop-turn : goal.invariant-loop-turn
invariant-loop-turn l = separated m.Comma (param_by l.loose (type_below l.depth)) [] l.fn.tokens ≡ separated_from m.Comma (param_by l.loose (type_below l.depth)) (l._turn-end - l._turn) l.found l.tokens
