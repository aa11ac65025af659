use Rattle.std.proofs.Common.{◌≡◌, ◌∙◌, ap, flat_map, map, subst, sym, Some}
use Rattle.std.proofs.lemmas.List.{take_all}
use Rattle.da_lang.specs.declared.refusal.ScopeKind.TheVariants.{Recursive}
use Rattle.da_lang.specs.Calls.{deeds_in as deeds_by_name}
use Rattle.da_lang.specs.ClassParts.{bodies, method_of}
use Rattle.da_lang.specs.Deeds.{deeds}
use Rattle.da_lang.specs.NameRules.{recursive_in}
use Rattle.da_lang.specs.Scopes.{at_lines}
use Rattle.da_calls.specs.CallGraph.{class_in, number_of}
use Rattle.da_calls.specs.CallMethods.{Numbering, body_of}
use Rattle.da_names.specs.DeedView.{deeds_in}
use Rattle.da_bodies.specs.Telling.{telling}
use Rattle.da_names.proofs.RecursiveLaws.{first_method, method_deeds, name_of, recursive_more, told_once}
use Rattle.da_bodies.proofs.TellingLaws.{telling-nil}
use Rattle.da_names.proofs.call_rules.tell_recursive.Goals as goal

pub loop-method-init : goal.loop-method-init
loop-method-init c = sym (telling-nil c.args.least.now)

pub tell_round-requires-clause-deeds : goal.tell_round-requires-clause-deeds
tell_round-requires-clause-deeds c =
    let g = c.args.graph.now in
    let ms = c.methods-method-items.result.now in
    let m = c.method-item.result in
    let numbers : Numbering (bodies (class_in g)) (map body_of ms) (number_of g) = subst (λ bs. Numbering (bodies (class_in g)) bs (number_of g)) (sym c.methods-method-items.ensures) c.requires.numbers in
    let first : method_of (class_in g) m.name.now ≡ Some (body_of m) = first_method (class_in g) ms (number_of g) numbers c.loop-method.method-index m c.loop-method-test.true c.method-item.is in
    let stmts : deeds_in c.in_ok-deeds.deeds ≡ deeds m.body.now = c.in_ok-deeds.ensures ∙ ap deeds c.as_slice.ensures in
    ap deeds_in c.as_slice-in-loop-method-2.ensures ∙ stmts ∙ method_deeds (class_in g) m first ∙ ap (deeds_by_name (class_in g)) (sym c.as_slice-in-loop-method.ensures)

pub loop-method-preserved : goal.loop-method-preserved
loop-method-preserved c =
    let l = c.loop-method in
    let g = c.args.graph.now in
    let m = c.method-item.result in
    recursive_more (class_in g) c.args.least.now l.least c.tell_round.new.least c.methods-method-items.result.now l.method-index m c.loop-method-test.true c.method-item.is l.invariant
    (c.tell_round.ensures ∙ ap (λ n. telling l.least (at_lines Recursive (recursive_in (class_in g) n))) c.as_slice-in-loop-method.ensures)

pub returns : goal.returns
returns c =
    let g = c.args.graph.now in
    let l = c.loop-method in
    let ms = c.methods-method-items.result.now in
    let numbers : Numbering (bodies (class_in g)) (map body_of ms) (number_of g) = subst (λ bs. Numbering (bodies (class_in g)) bs (number_of g)) (sym c.methods-method-items.ensures) c.requires.numbers in
    l.invariant
    ∙ ap (λ xs. telling c.args.least.now (at_lines Recursive (flat_map (recursive_in (class_in g)) (map name_of xs)))) (take_all l.method-index ms c.loop-method-test.false)
    ∙ told_once (class_in g) ms (number_of g) numbers c.args.least.now
