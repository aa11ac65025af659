use Rattle.da_limits.proofs.LimitOrder.{classes_step, classes_end}
use Rattle.da_limits.proofs.NoneBack.{none_at}
use Rattle.da_limits.proofs.limits.tell_classes.Goals as goal

pub tell_class-requires : goal.tell_class-requires
tell_class-requires c = (none_at _ _ c.class-item.result c.loop-class.invariant.back c.loop-class-test.true c.class-item.is).0

pub loop-class-preserved : goal.loop-class-preserved
loop-class-preserved c = record {
  back = (none_at _ _ c.class-item.result c.loop-class.invariant.back c.loop-class-test.true c.class-item.is).1;
  told = classes_step _ _ c.class-item.result _ _ _ c.loop-class-test.true c.class-item.is c.loop-class.invariant.told c.in_ok-tell_class.ensures;
}

pub returns : goal.returns
returns c = classes_end _ _ _ _ c.loop-class-test.false c.loop-class.invariant.told
