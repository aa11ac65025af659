use Rattle.query_plan.proofs.EntryLaws.{itself_as}
use Rattle.query_plan.proofs.twins.itself.Goals as goal

pub returns : goal.returns
returns c =
    itself_as c.args.next.now.nodes.now c.args.next.now.place c.in_ok-here.here c.args.next.now.width c.in_ok-entry.entry c.requires.plan c.requires.root c.requires.width c.in_ok-here.ensures c.in_ok-entry.ensures.rows c.in_ok-entry.ensures.named
    c.in_ok-entry.ensures.here
