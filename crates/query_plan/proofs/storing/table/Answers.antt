use Rattle.std.proofs.Common.{arith}
use Rattle.query_plan.specs.Storing.{number_in}
use Rattle.query_plan.proofs.KeepLaws.{table_all, table_more}
use Rattle.query_plan.proofs.storing.table.Goals as goal

pub loop-i-init : goal.loop-i-init
loop-i-init c = c.new-table.ensures

pub loop-i-preserved : goal.loop-i-preserved
loop-i-preserved c =
    table_more (number_in c.args.numbers.now) c.args.kept.now c.loop-i.table c.push.new.self c.args.entries.now c.loop-i.i c.in_ok-here.here c.is_kept.result c.index-entries-i.result c.in_ok-seen.seen c.loop-i-test.true c.index-entries-i.is c.in_ok-here.ensures
    c.is_kept.ensures c.in_ok-seen.ensures c.loop-i.invariant c.in_ok-push.ensures.ok

pub returns : goal.returns
returns c = table_all (number_in c.args.numbers.now) c.args.kept.now c.loop-i.table c.args.entries.now c.loop-i.i (omega (arith, c.loop-i-test.false)) c.loop-i.invariant
