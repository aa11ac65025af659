use Rattle.da_lang.specs.Typing.{class_breaks}
use Rattle.da_types.proofs.TellingLaws.{told_done, told_more}
use Rattle.da_types.proofs.check.tell_classes.Goals as goal

pub loop-class-preserved : goal.loop-class-preserved
loop-class-preserved c =
    told_more (class_breaks c.args.messages.now) c.args.classes.now c.loop-class.class-index c.class-item.result _ _ _
    c.loop-class-test.true c.class-item.is c.loop-class.invariant c.in_ok-tell_class.ensures

pub returns : goal.returns
returns c = told_done (class_breaks c.args.messages.now) c.args.classes.now c.loop-class.class-index _ _ c.loop-class-test.false c.loop-class.invariant
