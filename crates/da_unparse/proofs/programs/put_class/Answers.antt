use Rattle.std.proofs.Common.{◌≡◌, ◌++◌, ◌∙◌, ap, sym, refl, codes}
use Rattle.da_unparse.specs.ProgramTexts.{class_text, members_text}
use Rattle.da_unparse.proofs.ProgramTexts.{class_text-of}
use Rattle.da_unparse.proofs.TextRules.{seen, two_parts, three_parts}
use Rattle.da_unparse.proofs.programs.put_class.Goals as goal

pub returns : goal.returns
returns c =
    let before = c.args.out.now in
    let class = c.args.class.now in
    let front = codes "class " ++ class.name ++ codes " extends process:\n" in
    let named : c.append-2.new.self ≡ c.append.new.self ++ class.name = c.in_ok-append-2.ensures.ok ∙ ap (λ n. c.append.new.self ++ n) c.as_slice.ensures in
    let begun : c.append-3.new.self ≡ before ++ front =
    c.in_ok-append-3.ensures.ok ∙ three_parts before c.append.new.self c.append-2.new.self (codes "class ") class.name (codes " extends process:\n") front c.in_ok-append.ensures.ok named refl in
    seen c.put_members.result before c.append-3.new.self c.put_members.new.out (members_text c.as_slice-2.result.now) (class_text class) c.put_members.ensures
    (two_parts before c.append-3.new.self front (members_text c.as_slice-2.result.now) (class_text class) begun (class_text-of class ∙ ap (λ xs. front ++ members_text xs) (sym c.as_slice-2.ensures)))
