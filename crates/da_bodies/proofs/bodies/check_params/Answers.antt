use Rattle.std.proofs.Common.{sym, ap, ◌∙◌}
use Rattle.da_lang.specs.ExprNames.{taken}
use Rattle.da_lang.specs.Scopes.{look}
use Rattle.da_bodies.specs.Told.{told_kinds}
use Rattle.da_bodies.proofs.BodyLaws.{told_params-nil, told_params-more}
use Rattle.da_bodies.proofs.bodies.check_params.Goals as goal

pub loop-param-init : goal.loop-param-init
loop-param-init c = sym (told_params-nil c.args.line c.args.names.now c.args.least.now)

pub loop-param-preserved : goal.loop-param-preserved
loop-param-preserved c =
    let l = c.loop-param in
    told_params-more c.args.line c.args.names.now c.args.least.now l.least c.check_new.new.least c.args.params.now l.param-index c.param-item.result c.loop-param-test.true c.param-item.is l.invariant
    (c.check_new.ensures ∙ ap (λ name. told_kinds c.args.line l.least (taken (look c.args.names.now name))) c.as_slice.ensures)
