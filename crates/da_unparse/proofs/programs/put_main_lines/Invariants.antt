use Rattle.std.proofs.Common.{◌≡◌, ◌++◌, take, flat_map}
use Rattle.da_unparse.specs.ProgramTexts.{main_line_text}
use Rattle.da_unparse.proofs.programs.put_main_lines.Given as goal

abbrev pub invariant-loop-line : goal.invariant-loop-line
invariant-loop-line l = l.out ≡ l.fn.out ++ flat_map main_line_text (take l.line-index l.lines)
