use Rattle.class_demands.proofs.MarkLaws.{other_marks, use_marks}
use Rattle.class_demands.proofs.prefix.mark_use.Goals as goal

pub returns-in_ok-mark-in-Uses : goal.returns-in_ok-mark-in-Uses
returns-in_ok-mark-in-Uses c = use_marks c.args.demand.now c.in-Uses.slot c.args.used.now c.mark.new.used c.in-Uses.is c.in_ok-mark-in-Uses.ensures

pub returns-in_default : goal.returns-in_default
returns-in_default c = other_marks c.args.demand.now c.args.used.now c.in_default.not-Uses
