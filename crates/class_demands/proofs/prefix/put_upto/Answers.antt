use Rattle.class_demands.specs.Prefix.{seen}
use Rattle.class_demands.proofs.MarkLaws.{lines_next}
use Rattle.class_demands.proofs.prefix.put_upto.Goals as goal

pub loop-one-preserved : goal.loop-one-preserved
loop-one-preserved c =
    lines_next c.args.line c.args.listed.now c.loop-one.one-index c.one-item.result c.args.used.now c.loop-one.used c.put_line.new.used (seen c.args.found.now) (seen c.loop-one.found) (seen c.put_line.new.found)
    c.loop-one-test.true c.one-item.is c.loop-one.invariant c.in_ok-put_line.ensures
