use Rattle.std.proofs.Common.{◌∙◌, ap, refl, map, filter_map, List, Option}
use Rattle.da_lang.specs.declared.refusal.ScopeKind.TheVariants.{Twice}
use Rattle.da_lang.specs.declared.tree.ClassTree.{ClassTree}
use Rattle.da_lang.specs.declared.tree.MessageDecl.{MessageDecl}
use Rattle.da_lang.specs.NameRules.{again, made_at, set_up_at}
use Rattle.da_lang.specs.Scopes.{at_lines}
use Rattle.da_bodies.specs.Telling.{Refusal, telling}
use Rattle.da_bodies.proofs.ListSteps.{on_same}
use Rattle.da_names.proofs.MainLaws.{told_twice, twice_by}
use Rattle.da_names.proofs.top_names.tell_twice.Goals as goal

pub returns : goal.returns
returns c =
    let t = c.args.tree.now in
    let old = c.args.least.now in
    let more : Option Refusal → List _ → Option Refusal = λ f ds. telling f (at_lines Twice (again ds)) in
    let classes = twice_by (map (λ (d : ClassTree). (d.name, d.line))) old c.tell_again.new.least _ t.classes _ _ c.as_slice.ensures c.in_ok-classes.ensures c.as_slice-2.ensures c.in_ok-tell_again.ensures in
    let tags = twice_by (map (λ (x : MessageDecl). (x.tag, x.line))) c.tell_again.new.least c.tell_again-2.new.least _ t.messages _ _ c.as_slice-3.ensures c.in_ok-tags.ensures c.as_slice-4.ensures c.in_ok-tell_again-2.ensures in
    let made = twice_by (filter_map made_at) c.tell_again-2.new.least c.tell_again-3.new.least _ t.main _ _ c.as_slice-5.ensures c.in_ok-made.ensures c.as_slice-6.ensures c.in_ok-tell_again-3.ensures in
    let set_up = twice_by (filter_map set_up_at) c.tell_again-3.new.least _ _ t.main _ _ c.as_slice-7.ensures c.in_ok-set_up.ensures c.as_slice-8.ensures refl in
    on_same c.tell_again-4.result _ _ _ c.tell_again-4.ensures
    (set_up
    ∙ ap (λ f. more f (filter_map set_up_at t.main)) (made ∙ ap (λ f. more f (filter_map made_at t.main)) (tags ∙ ap (λ f. more f (map (λ (x : MessageDecl). (x.tag, x.line)) t.messages)) classes))
    ∙ told_twice old t)
