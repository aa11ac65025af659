use Rattle.std.proofs.Common.{◌∙◌, ap, length}
use Rattle.query_plan.specs.Storing.{read_down}
use Rattle.query_plan.proofs.KeepLaws.{choice_is}
use Rattle.query_plan.proofs.storing.choice.Goals as goal

pub returns : goal.returns
returns c =
    choice_is c.args.nodes.now c.requires.plan c.args.entries.now c.in_ok-kept.kept c.keep_all_read.new.kept c.requires.entries c.requires.many c.in_ok-kept.ensures
    (c.keep_all_read.ensures ∙ ap (read_down (length c.args.nodes.now) c.args.nodes.now) c.keep_all_named.ensures)
