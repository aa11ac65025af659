use Rattle.std.proofs.Common.{◌≡◌, ◌-◌, []}
use Rattle.da_values.specs.declared.token.Mark.TheVariants as m
use Rattle.da_phrases.specs.Lists.{separated, separated_from}
use Rattle.da_phrases.specs.Reader.{word}
use Rattle.da_parse.proofs.members.names.Given as goal

abbrev pub invariant-loop-turn : goal.invariant-loop-turn
invariant-loop-turn l = separated m.Comma (word m.Name) [] l.fn.tokens ≡ separated_from m.Comma (word m.Name) (l._turn-end - l._turn) l.found l.tokens
