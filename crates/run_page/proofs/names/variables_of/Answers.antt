use Rattle.std.proofs.Common.{[], ◌∷◌, ◌++◌, ◌∙◌, ap, map}
use Rattle.std.proofs.lemmas.List.{take_all}
use Rattle.std.specs.Prelude.{filter_map}
use Rattle.da_lang.specs.ClassParts.{Variable, variable_in}
use Rattle.da_lang.specs.declared.tree.Member.{Member}
use Rattle.run_page.proofs.NameLemmas.{member_on}
use Rattle.run_page.proofs.names.variables_of.Goals as goal

pub loop-member-preserved : goal.loop-member-preserved
loop-member-preserved c =
    let l = c.loop-member in
    member_on c.as_slice-member-items.result.now l.member-index c.member-item.result l.names c.add_variable.new.names c.loop-member-test.true l.invariant
    (c.in_ok-add_variable.ensures ∙ ap (λ (m : Member). l.names ++ map (λ (v : Variable). v.name) (filter_map variable_in (m ∷ []))) c.member-item.is)

pub returns : goal.returns
returns c =
    let l = c.loop-member in
    l.invariant ∙ ap (λ ms. map (λ (v : Variable). v.name) (filter_map variable_in ms)) (take_all l.member-index c.as_slice-member-items.result.now c.loop-member-test.false ∙ c.as_slice-member-items.ensures)
