use Rattle.type_table.proofs.DrawLaws.{told_set, told_added}
use Rattle.type_table.proofs.whole.tell.Goals as goal

pub returns-then-is_open_at : goal.returns-then-is_open_at
returns-then-is_open_at c = told_set c.args.forms.now c.set.new.self c.args.equations.now c.args.whole c.args.form (c.is_open_at.ensures.unset c.if-is_open_at.true) c.set.ensures

pub returns : goal.returns
returns c = told_added c.args.forms.now c.add.new.forms c.args.equations.now c.push.new.self c.args.whole c.args.form _ c.in_ok-number.ensures.0 c.in_ok-number.ensures.1 c.in_ok-push.ensures.ok
