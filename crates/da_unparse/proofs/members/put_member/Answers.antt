use Rattle.std.proofs.Common.{◌≡◌, ◌++◌, ◌∙◌, ap, sym, refl, codes}
use Rattle.da_unparse.specs.ProgramTexts.{member_text, params_text}
use Rattle.da_unparse.specs.Texts.{stmts_text}
use Rattle.da_unparse.proofs.ProgramTexts.{member_text-Setup, member_text-Run}
use Rattle.da_unparse.proofs.TextRules.{seen, two_parts, three_parts}
use Rattle.da_unparse.proofs.members.put_member.Goals as goal

pub returns-in_ok-append-in-Setup-2 : goal.returns-in_ok-append-in-Setup-2
returns-in_ok-append-in-Setup-2 c =
    let before = c.args.out.now in
    let q = c.in-Setup in
    let all = member_text c.args.member.now in
    let body = stmts_text 2 c.as_slice-in-Setup-2.result.now in
    let front = codes "    def setup" ++ params_text q.params ++ codes ":\n" in
    let listed : c.put_params.new.out ≡ c.append-in-Setup.new.self ++ params_text q.params = c.in_ok-put_params-in-Setup.ensures ∙ ap (λ ps. c.append-in-Setup.new.self ++ params_text ps) c.as_slice-in-Setup.ensures in
    let begun : c.append-in-Setup-2.new.self ≡ before ++ front =
    c.in_ok-append-in-Setup-2.ensures.ok
    ∙ three_parts before c.append-in-Setup.new.self c.put_params.new.out (codes "    def setup") (params_text q.params) (codes ":\n") front c.in_ok-append-in-Setup.ensures.ok listed refl in
    seen c.put_stmts.result before c.append-in-Setup-2.new.self c.put_stmts.new.out body all c.put_stmts.ensures
    (two_parts before c.append-in-Setup-2.new.self front body all begun
    (ap member_text q.is ∙ member_text-Setup q.params q.body q.line ∙ ap (λ stmts. front ++ stmts_text 2 stmts) (sym c.as_slice-in-Setup-2.ensures)))

pub returns-in_ok-append-in-Run : goal.returns-in_ok-append-in-Run
returns-in_ok-append-in-Run c =
    let q = c.in-Run in
    let all = member_text c.args.member.now in
    let body = stmts_text 2 c.as_slice-in-Run.result.now in
    seen c.put_stmts-in-Run.result c.args.out.now c.append-in-Run.new.self c.put_stmts-in-Run.new.out body all c.put_stmts-in-Run.ensures
    (two_parts c.args.out.now c.append-in-Run.new.self (codes "    def run():\n") body all c.in_ok-append-in-Run.ensures.ok
    (ap member_text q.is ∙ member_text-Run q.body q.line ∙ ap (λ stmts. codes "    def run():\n" ++ stmts_text 2 stmts) (sym c.as_slice-in-Run.ensures)))
