use Rattle.da_names.proofs.MainMaps.{arities_more}
use Rattle.da_names.proofs.arities.arities_of.Goals as goal

pub loop-class-preserved : goal.loop-class-preserved
loop-class-preserved c = λ q.
    let l = c.loop-class in
    arities_more _ _ q c.args.classes.now l.class-index c.class-item.result c.loop-class-test.true c.class-item.is (l.invariant q) (c.in_ok-add_class.ensures q)
