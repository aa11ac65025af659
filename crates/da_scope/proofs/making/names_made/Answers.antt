use Rattle.std.proofs.Common.{refl}
use Rattle.da_scope.proofs.MakingAt.{before_step, before_within, made_step}
use Rattle.da_scope.proofs.making.names_made.Goals as goal

pub loop-line-preserved : goal.loop-line-preserved
loop-line-preserved c =
    let s = c.loop-line.invariant in
    let is = c.in-Some.ensures.cases.0 in
    let fewer = before_step c.loop-line.rest.now c.in-Some.earlier.now c.in-Some.line.now _ _ _ is s.before c.count_made-before.ensures refl in
    record { scope = made_step c.args.lines.now c.loop-line.rest.now c.in-Some.earlier.now c.in-Some.line.now _ c.loop-line.scope _ is s.scope fewer c.in_ok-enter_line.ensures; before = fewer; few = before_within c.loop-line.rest.now c.in-Some.earlier.now c.in-Some.line.now is s.few }
