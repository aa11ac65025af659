use Rattle.std.proofs.Common.{arith}
use Rattle.query_plan.proofs.EntryLaws.{twin_as}
use Rattle.query_plan.proofs.twins.twin_entry.Goals as goal

pub returns : goal.returns
returns c =
    twin_as c.args.next.now.nodes.now c.args.next.now.place c.in-Some.place c.in_ok-twin.twin c.args.next.now.width c.args.next.now.node.now c.args.next.now.entries.now c.parent_tests-tests.result.now c.in_ok-entry.entry c.requires.plan c.requires.root c.requires.entries (omega (arith, c.requires.many))
    c.requires.there c.requires.width (c.share_tests.ensures c.if-not-share_tests.false) c.in-Some.ensures.0 c.in-Some.ensures.1 c.in_ok-twin.ensures c.in_ok-entry.ensures.rows c.in_ok-entry.ensures.named c.in_ok-entry.ensures.here
