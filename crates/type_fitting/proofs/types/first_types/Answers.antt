use Rattle.type_table.specs.Values.{types_of}
use Rattle.type_fitting.proofs.LoopLaws.{first_none, first_on}
use Rattle.type_fitting.proofs.types.first_types.Goals as goal

pub loop-number-init : goal.loop-number-init
loop-number-init c = first_none (types_of c.args.forms.now) c.new-types.result c.new-types.ensures

pub loop-number-preserved : goal.loop-number-preserved
loop-number-preserved c = first_on (types_of c.args.forms.now) c.loop-number.types c.push.new.self c.loop-number.number _ c.loop-number.invariant c.in_ok-ty.ensures c.in_ok-push.ensures.ok
