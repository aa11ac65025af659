use Rattle.std.proofs.Common.{arith, refl}
use Rattle.query_plan.proofs.KeepLaws.{named_all, named_more}
use Rattle.query_plan.proofs.storing.keep_all_named.Goals as goal

pub loop-entry-init : goal.loop-entry-init
loop-entry-init c = refl

pub loop-entry-preserved : goal.loop-entry-preserved
loop-entry-preserved c =
    named_more c.args.kept.now c.loop-entry.kept c.keep_named.new.kept c.args.entries.now c.loop-entry.entry-index c.entry-item.result c.loop-entry-test.true c.entry-item.is c.loop-entry.invariant c.keep_named.ensures

pub returns : goal.returns
returns c = named_all c.args.kept.now c.loop-entry.kept c.args.entries.now c.loop-entry.entry-index (omega (arith, c.loop-entry-test.false)) c.loop-entry.invariant
