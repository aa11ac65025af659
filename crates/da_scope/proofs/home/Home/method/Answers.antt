use Rattle.std.proofs.Common.{◌∙◌, ap, sym}
use Rattle.da_lang.specs.ClassParts.{params_if, stmts_if}
use Rattle.da_scope.proofs.MethodLaws.{method_found, method_missed}
use Rattle.da_scope.proofs.home.Home.method.Goals as goal

pub returns-in-Some-clause-params : goal.returns-in-Some-clause-params
returns-in-Some-clause-params c =
    let home = c.args.self.now in
    c.whole_body.ensures.params ∙ sym (ap params_if (method_found home.class.now home.places c.args.name.now c.member.result c.in-Some.member home.has_places c.member.ensures c.in-Some.is))

pub returns-in-Some-clause-stmts : goal.returns-in-Some-clause-stmts
returns-in-Some-clause-stmts c =
    let home = c.args.self.now in
    c.whole_body.ensures.stmts ∙ sym (ap stmts_if (method_found home.class.now home.places c.args.name.now c.member.result c.in-Some.member home.has_places c.member.ensures c.in-Some.is))

pub returns-in-None-clause-params : goal.returns-in-None-clause-params
returns-in-None-clause-params c =
    let home = c.args.self.now in
    sym (ap params_if (method_missed home.class.now home.places c.args.name.now c.member.result home.has_places c.member.ensures c.in-None.is))

pub returns-in-None-clause-stmts : goal.returns-in-None-clause-stmts
returns-in-None-clause-stmts c =
    let home = c.args.self.now in
    sym (ap stmts_if (method_missed home.class.now home.places c.args.name.now c.member.result home.has_places c.member.ensures c.in-None.is))
