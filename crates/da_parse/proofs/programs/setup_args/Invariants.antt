use Rattle.std.proofs.Common.{◌≡◌, ◌-◌, false, []}
use Rattle.da_values.specs.declared.token.Mark.TheVariants as m
use Rattle.da_phrases.specs.Lists.{begun, begun_from}
use Rattle.da_parse.specs.Programs.{outermost, argument}
use Rattle.da_parse.proofs.programs.setup_args.Given as goal

abbrev pub invariant-loop-turn : goal.invariant-loop-turn
invariant-loop-turn l = begun m.Comma (argument (outermost false)) [] l.fn.tokens ≡ begun_from m.Comma (argument (outermost false)) (l._turn-end - l._turn) l.found l.tokens
