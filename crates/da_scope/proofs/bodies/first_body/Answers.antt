use Rattle.std.proofs.Common.{◌≡◌, ◌∙◌, ap, sym, find, filter_map}
use Rattle.std.specs.Option.{option_map}
use Rattle.da_lang.specs.declared.tree.Member.{Member}
use Rattle.da_lang.specs.ClassParts as class
use Rattle.da_lang.specs.ClassParts.{body_in, params_if, stmts_if}
use Rattle.da_scope.specs.HomeView.{parts, parts_in, wants}
use Rattle.da_scope.proofs.BodiesAt.{none_step, found_here, params_found, stmts_found}
use Rattle.da_scope.proofs.bodies.first_body.Goals as goal

pub loop-member-preserved : goal.loop-member-preserved
loop-member-preserved c =
    none_step body_in (λ (b : class.Body). wants c.args.wanted b.place) parts c.as_slice-member-items.result.now _ c.member-item.result c.loop-member-test.true c.member-item.is c.loop-member.invariant c.in_default.ensures

pub returns-in-Some-clause-params : goal.returns-in-Some-clause-params
returns-in-Some-clause-params c =
    let test = λ (b : class.Body). wants c.args.wanted b.place in
    let found = found_here body_in test parts c.as_slice-member-items.result.now _ c.member-item.result (parts_in c.in-Some.body) c.loop-member-test.true c.member-item.is c.loop-member.invariant c.in-Some.ensures in
    sym (params_found _ (parts_in c.in-Some.body) (ap (λ members. option_map parts (find test (filter_map body_in members))) (sym c.as_slice-member-items.ensures) ∙ found))

pub returns-in-Some-clause-stmts : goal.returns-in-Some-clause-stmts
returns-in-Some-clause-stmts c =
    let test = λ (b : class.Body). wants c.args.wanted b.place in
    let found = found_here body_in test parts c.as_slice-member-items.result.now _ c.member-item.result (parts_in c.in-Some.body) c.loop-member-test.true c.member-item.is c.loop-member.invariant c.in-Some.ensures in
    sym (stmts_found _ (parts_in c.in-Some.body) (ap (λ members. option_map parts (find test (filter_map body_in members))) (sym c.as_slice-member-items.ensures) ∙ found))
