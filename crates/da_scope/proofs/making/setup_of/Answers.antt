use Rattle.std.proofs.Common.{◌∙◌, sym}
use Rattle.da_scope.proofs.MakingAt.{first_there}
use Rattle.da_scope.proofs.making.setup_of.Goals as goal

pub returns-then-is_some : goal.returns-then-is_some
returns-then-is_some c = first_there c.args.scope.now c.args.name.now c.args.lines.now _ c.line-item.result _ c.loop-line-test.true c.line-item.is c.loop-line.invariant (sym c.is_some.ensures ∙ c.if-is_some.true) c.in_ok-call.ensures
