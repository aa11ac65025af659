use Rattle.std.proofs.Common.{◌∙◌, Some, ap, arith}
use Rattle.query_plan.proofs.EntryLaws.{joined_is_entry}
use Rattle.query_plan.proofs.twins.joined_or_twin.Goals as goal

pub returns-in-Some : goal.returns-in-Some
returns-in-Some c =
    joined_is_entry c.args.next.now.nodes.now c.args.next.now.place c.args.parent c.args.child c.args.filled c.args.next.now.entries.now c.in-Some.entry c.requires.next.plan c.requires.next.root c.requires.next.entries
    (omega (arith, c.requires.next.many)) (c.requires.next.there ∙ ap Some c.requires.joins) (rw c.in-Some.is at c.in_ok-found.ensures)
