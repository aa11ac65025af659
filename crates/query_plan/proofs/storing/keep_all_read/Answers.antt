use Rattle.std.proofs.Common.{arith, refl, length}
use Rattle.query_plan.proofs.KeepLaws.{read_end, read_next, read_start}
use Rattle.query_plan.proofs.storing.keep_all_read.Goals as goal

pub loop-done-init : goal.loop-done-init
loop-done-init c = read_start c.args.kept.now c.args.nodes.now (length c.args.nodes.now)

pub loop-done-preserved : goal.loop-done-preserved
loop-done-preserved c =
    read_next c.args.kept.now c.loop-done.kept c.keep_read_of.new.kept c.args.nodes.now (length c.args.nodes.now) c.loop-done.done _ c.index-nodes-i.result c.loop-done-test.true refl refl c.index-nodes-i.is c.loop-done.invariant
    c.keep_read_of.ensures

pub returns : goal.returns
returns c = read_end c.args.kept.now c.loop-done.kept c.args.nodes.now (length c.args.nodes.now) c.loop-done.done (omega (arith, c.loop-done-test.false)) refl c.loop-done.invariant
