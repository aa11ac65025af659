use Rattle.std.proofs.Common.{◌≡◌, ◌++◌, ◌∙◌, ap, refl, codes, flat_map}
use Rattle.da_unparse.specs.Expressions.{either}
use Rattle.da_unparse.specs.ProgramTexts.{main_line_text}
use Rattle.da_unparse.specs.Texts.{text_at}
use Rattle.da_unparse.proofs.ProgramTexts.{main_line_text-Setup}
use Rattle.da_unparse.proofs.TextRules.{seen, two_parts, three_parts}
use Rattle.da_unparse.proofs.programs.put_main_line.Goals as goal

pub returns-in_ok-put_arguments-in-Setup : goal.returns-in_ok-put_arguments-in-Setup
returns-in_ok-put_arguments-in-Setup c =
    let before = c.args.out.now in
    let q = c.in-Setup in
    let all = main_line_text c.args.line.now in
    let arguments = flat_map (λ x. codes ", " ++ text_at either x) q.args in
    let front = codes "    setup(" ++ q.name ++ arguments in
    let named : c.append-in-Setup-2.new.self ≡ c.append-in-Setup.new.self ++ q.name = c.in_ok-append-in-Setup-2.ensures.ok ∙ ap (λ n. c.append-in-Setup.new.self ++ n) c.as_slice-in-Setup.ensures in
    let begun : c.put_arguments.new.out ≡ before ++ front =
    c.in_ok-put_arguments-in-Setup.ensures ∙ ap (λ xs. c.append-in-Setup-2.new.self ++ flat_map (λ x. codes ", " ++ text_at either x) xs) c.as_slice-in-Setup-2.ensures
    ∙ three_parts before c.append-in-Setup.new.self c.append-in-Setup-2.new.self (codes "    setup(") q.name arguments front c.in_ok-append-in-Setup.ensures.ok named refl in
    seen c.append-in-Setup-3.result before c.put_arguments.new.out c.append-in-Setup-3.new.self (codes ")\n") all c.append-in-Setup-3.ensures.ok
    (two_parts before c.put_arguments.new.out front (codes ")\n") all begun (ap main_line_text q.is ∙ main_line_text-Setup q.name q.args q.line))
