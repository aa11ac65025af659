use Rattle.std.proofs.Common.{◌≡◌, ◌-◌, false}
use Rattle.da_phrases.specs.Lists.{ended, ended_from}
use Rattle.da_parse.specs.Programs.{outermost, main_line}
use Rattle.da_parse.proofs.programs.main_lines.Given as goal

abbrev pub invariant-loop-turn : goal.invariant-loop-turn
invariant-loop-turn l = ended (main_line (outermost false)) l.fn.tokens ≡ ended_from (main_line (outermost false)) (l._turn-end - l._turn) l.found l.tokens
