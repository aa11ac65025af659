use Rattle.query_plan.proofs.EntryLaws.{nothing_behind}
use Rattle.query_plan.proofs.twins.are_these.Goals as goal

pub returns : goal.returns
returns c = λ told.
    let (rest, split) = c.begins.ensures told in
    nothing_behind c.args.all.now c.args.tests.now rest split (c.is_as_long.ensures c.if-not-is_as_long.false)
