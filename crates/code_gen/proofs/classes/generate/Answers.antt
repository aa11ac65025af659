use Rattle.std.proofs.Common.{◌∙◌, ◌<◌, ap, get_or, length, subst, sym}
use Rattle.code_gen.proofs.Generated.{code_answered, points_few, setup_none}
use Rattle.code_gen.proofs.classes.generate.Goals as goal

pub class_code-requires-clause-few : goal.class_code-requires-clause-few
class_code-requires-clause-few c =
    let its = c.index-as_slice-class.result in
    let inside = subst (λ p. c.args.class < length p.classes) (sym c.program-program.ensures.same) c.requires.exists in
    let is = c.index-as_slice-class.is ∙ ap (λ classes. get_or classes c.args.class its) c.as_slice.ensures in
    points_few c.args.t.now c.program-program.result.now c.args.class its c.program-program.ensures.same inside is c.program-program.ensures.accepted

pub class_code-requires-clause-setup : goal.class_code-requires-clause-setup
class_code-requires-clause-setup c =
    let its = c.index-as_slice-class.result in
    let inside = subst (λ p. c.args.class < length p.classes) (sym c.program-program.ensures.same) c.requires.exists in
    let is = c.index-as_slice-class.is ∙ ap (λ classes. get_or classes c.args.class its) c.as_slice.ensures in
    setup_none c.args.t.now c.program-program.result.now c.args.class its c.program-program.ensures.same inside is c.program-program.ensures.ends

pub returns : goal.returns
returns c =
    let its = c.index-as_slice-class.result in
    let inside = subst (λ p. c.args.class < length p.classes) (sym c.program-program.ensures.same) c.requires.exists in
    let is = c.index-as_slice-class.is ∙ ap (λ classes. get_or classes c.args.class its) c.as_slice.ensures in
    code_answered c.args.t.now c.program-program.result.now c.args.class its c.program-program.ensures.same inside is c.class_code.result c.class_code.ensures
