use Rattle.type_table.proofs.DrawLaws.{opens_more}
use Rattle.type_table.proofs.whole.add_open.Goals as goal

pub loop-i-preserved : goal.loop-i-preserved
loop-i-preserved c =
    opens_more c.args.forms.now c.loop-i.forms c.add.new.forms c.loop-i.numbers c.push.new.self c.loop-i._i _ c.loop-i.invariant.0 c.loop-i.invariant.1 c.in_ok-number.ensures.0 c.in_ok-number.ensures.1 c.in_ok-push.ensures.ok
