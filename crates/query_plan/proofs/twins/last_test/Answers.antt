use Rattle.std.proofs.Common.{subst, sym}
use Rattle.std.specs.Option.{IfSome}
use Rattle.query_plan.specs.Storing.{IsLast}
use Rattle.query_plan.proofs.EntryLaws.{last_alone, last_there, nothing_behind}
use Rattle.query_plan.proofs.twins.last_test.Goals as goal

pub returns-then-is_as_long : goal.returns-then-is_as_long
returns-then-is_as_long c =
    let (rest, split) = c.begins.ensures c.if-not-begins.false in
    last_alone c.args.tests.now c.as_slice-all.result.now c.args.entry.now c.as_slice-all.ensures
    (nothing_behind c.as_slice-all.result.now c.args.tests.now rest split (c.is_as_long.ensures c.if-is_as_long.true))

pub returns-then-has_one_more : goal.returns-then-has_one_more
returns-then-has_one_more c =
    let (rest, split) = c.begins.ensures c.if-not-begins.false in
    subst (λ o. IfSome o (IsLast c.args.tests.now c.args.entry.now)) (sym c.test_at.ensures)
    (last_there c.args.tests.now c.as_slice-all.result.now rest c.args.entry.now c.as_slice-all.ensures split (c.has_one_more.ensures.root c.if-has_one_more.true) (c.has_one_more.ensures.long c.if-has_one_more.true))
