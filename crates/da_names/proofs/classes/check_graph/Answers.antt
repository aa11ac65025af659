use Rattle.std.proofs.Common.{◌≡◌, ◌∙◌, [], ap, flat_map, map, refl, subst, sym}
use Rattle.da_lang.specs.declared.refusal.ScopeKind.TheVariants.{Twice}
use Rattle.da_lang.specs.ClassParts.{Variable, bodies, variables}
use Rattle.da_lang.specs.ExprNames.{ClassVariable}
use Rattle.da_lang.specs.NameRules.{class_scope, variables_again}
use Rattle.da_lang.specs.Scopes.{at_lines}
use Rattle.da_calls.specs.CallGraph.{class_in}
use Rattle.da_names.specs.ClassRules.{bodies_in, body_refusals, deed_refusals, deeds_by, member_refusals}
use Rattle.da_bodies.specs.Telling.{telling}
use Rattle.da_bodies.specs.Told.{entered_each}
use Rattle.da_names.proofs.ClassLaws.{class_told}
use Rattle.da_bodies.proofs.ListSteps.{on_same}
use Rattle.da_bodies.proofs.SameLook.{SameLook, same_each}
use Rattle.da_names.proofs.classes.check_graph.Goals as goal

pub returns : goal.returns
returns c =
    let class = class_in c.args.graph.now in
    let names = map (λ (v : Variable). v.name) (variables class) in
    let same : c.class-class.result.now ≡ class = c.class-class.ensures in
    let scope : entered_each ClassVariable names [] ≡ c.enter_variables.new.names =
    sym (c.in_ok-enter_variables.ensures.entered ∙ ap (λ k. entered_each ClassVariable (map (λ (v : Variable). v.name) (variables k)) c.new-names.result) same ∙ ap (entered_each ClassVariable names) c.new-names.ensures) in
    let look : SameLook (class_scope class) c.enter_variables.new.names = subst (λ s. SameLook (class_scope class) s) scope (same_each ClassVariable names []) in
    let list : bodies_in c.in_ok-list.list ≡ bodies class = c.in_ok-list.ensures ∙ ap bodies same in
    let first = c.in_ok-enter_variables.ensures.told ∙ ap (λ k. telling c.args.least.now (at_lines Twice (variables_again k))) same in
    let second = c.in_ok-check_bodies.ensures.told ∙ ap (λ bs. telling c.enter_variables.new.least (flat_map (body_refusals class c.enter_variables.new.names) bs)) (ap bodies_in c.as_slice.ensures ∙ list) in
    let third = c.in_ok-check_deeds.ensures ∙ ap (λ bs. telling c.check_bodies.new.least (deed_refusals class (deeds_by bs) bs)) (ap bodies_in c.as_slice-2.ensures ∙ list) in
    let fourth = c.in_ok-check_members.ensures ∙ ap (λ bs. telling c.check_deeds.new.least (member_refusals c.class-class.result.now.line bs)) (ap bodies_in c.as_slice-3.ensures ∙ list)
    ∙ ap (λ k. telling c.check_deeds.new.least (member_refusals k.line (bodies class))) same in
    on_same c.tell_recursive.result c.tell_recursive.new.least _ _ c.tell_recursive.ensures
    (class_told c.args.least.now class c.enter_variables.new.names c.enter_variables.new.least c.check_bodies.new.least c.check_deeds.new.least c.check_members.new.least _ look first second third fourth refl)
