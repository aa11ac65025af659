use Rattle.std.proofs.Common.{◌∙◌}
use Rattle.quant_norm.proofs.PrintLaws.{over_pushed, pushed}
use Rattle.quant_norm.proofs.nodes.push.Goals as goal

pub returns-in_ok-push_both-in-Ok : goal.returns-in_ok-push_both-in-Ok
returns-in_ok-push_both-in-Ok c =
    pushed c.nodes.inside.list c.args.nodes.now c.push_both.new.list c.args.node c.in-Ok.number c.nodes.view_is c.in_ok-push_both-in-Ok.ensures.ok (c.in-Ok.ensures ∙ c.len.ensures)

pub returns-in-Err : goal.returns-in-Err
returns-in-Err c = λ full. over_pushed c.nodes.inside.list c.args.nodes.now c.args.node c.len.result c.nodes.view_is c.len.ensures (c.in-Err.ensures full)
