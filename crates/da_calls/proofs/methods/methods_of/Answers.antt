use Rattle.std.proofs.Common.{List, [], ◌∷◌, ◌++◌, map, take, filter_map, subst, ap, sym, ◌∙◌}
use Rattle.std.proofs.lemmas.List.{take_all}
use Rattle.da_lang.specs.declared.tree.Member.{Member}
use Rattle.da_lang.specs.ClassParts.{body_in}
use Rattle.da_calls.specs.declared.methods.Methods.{Methods}
use Rattle.da_calls.specs.CallMethods.{Numbering, body_of, numbered}
use Rattle.da_calls.specs.CallNames.{number_in}
use Rattle.da_calls.proofs.CallMethods.{numbering_none, numbering_member, numbering_method, numbering_step}
use Rattle.da_calls.proofs.methods.methods_of.Goals as goal
use Rattle.da_calls.proofs.methods.methods_of.Goals.{in-Some+in_ok-add_method, in_default}

pub loop-member-init : goal.loop-member-init
loop-member-init c =
    subst (λ ms. Numbering [] ms (number_in c.new-2.result)) (sym (ap (map body_of) c.new.ensures.items)) (numbering_none (number_in c.new-2.result) c.new-2.ensures)

pub returns : goal.returns
returns c =
    subst (λ ms. Numbering (filter_map body_in ms) (numbered c.loop-member.methods) (number_in c.loop-member.methods.numbers))
    (take_all c.loop-member.member-index c.as_slice-member-items.result.now c.loop-member-test.false ∙ c.as_slice-member-items.ensures) c.loop-member.invariant

pub loop-member-preserved : goal.loop-member-preserved
loop-member-preserved c =
    let before : List Member = take c.loop-member.member-index c.as_slice-member-items.result.now in
    let met : Methods → Type 0 = λ methods. Numbering (filter_map body_in (before ++ c.member-item.result ∷ [])) (numbered methods) (number_in methods.numbers) in
    numbering_step c.as_slice-member-items.result.now c.loop-member.member-index c.member-item.result _ _ c.loop-member-test.true c.member-item.is
    (elim c.match-method_in.branch [
      | in-Some+in_ok-add_method w ↦ subst met (sym w.methods-is) (numbering_method before c.member-item.result (body_of w.in-Some.method) _ _ _ _ (sym w.in-Some.ensures) w.in_ok-add_method.ensures c.loop-member.invariant)
      | in_default w ↦ subst met (sym w.methods-is) (numbering_member before c.member-item.result _ _ (sym w.in_default.ensures) c.loop-member.invariant)
    ])
