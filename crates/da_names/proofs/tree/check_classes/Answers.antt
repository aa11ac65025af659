use Rattle.std.proofs.Common.{sym}
use Rattle.da_lang.specs.NameRules.{class_refusals}
use Rattle.da_names.proofs.ClassSteps.{told_more}
use Rattle.da_bodies.proofs.TellingLaws.{telling-nil}
use Rattle.da_names.proofs.tree.check_classes.Goals as goal

pub loop-class-init : goal.loop-class-init
loop-class-init c = sym (telling-nil c.args.least.now)

pub loop-class-preserved : goal.loop-class-preserved
loop-class-preserved c =
    let l = c.loop-class in
    told_more class_refusals c.args.least.now l.least c.check_class.new.least c.args.classes.now l.class-index c.class-item.result c.loop-class-test.true c.class-item.is l.invariant c.in_ok-check_class.ensures
