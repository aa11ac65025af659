use Rattle.type_table.proofs.DrawLaws.{never_numbered}
use Rattle.type_table.proofs.whole.add_clash.Goals as goal

pub returns : goal.returns
returns c =
    λ asked never table pairs. never_numbered c.args.forms.now c.add.new.forms c.add-2.new.forms c.args.equations.now c.push.new.self asked _ _ table pairs never
    c.in_ok-first.ensures.0 c.in_ok-first.ensures.1 c.in_ok-second.ensures.0 c.in_ok-second.ensures.1 c.in_ok-push.ensures.ok
