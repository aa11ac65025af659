use Rattle.std.proofs.Common.{codes}
use Rattle.da_unparse.specs.ProgramTexts.{main_text, main_lines_text}
use Rattle.da_unparse.proofs.ProgramTexts.{main_text-of}
use Rattle.da_unparse.proofs.TextRules.{seen, two_parts}
use Rattle.da_unparse.proofs.programs.put_main.Goals as goal

pub returns : goal.returns
returns c =
    let all = main_text c.args.lines.now in
    let rest = main_lines_text c.args.lines.now in
    seen c.put_main_lines.result c.args.out.now c.append.new.self c.put_main_lines.new.out rest all c.put_main_lines.ensures
    (two_parts c.args.out.now c.append.new.self (codes "def main():\n") rest all c.in_ok-append.ensures.ok (main_text-of c.args.lines.now))
