use Rattle.std.proofs.Common.{subst, sym}
use Rattle.std.specs.Prelude.{IfOk, List, Option}
use Rattle.da_lang.specs.declared.event.Action.{Action}
use Rattle.run_page.specs.Running.{HasAdded}
use Rattle.run_page.proofs.running.add_row.Goals as goal

pub returns-in-Some : goal.returns-in-Some
returns-in-Some c =
    subst (λ (done : Option (List Action)). IfOk c.add_event.result (λ allowed. HasAdded c.args.number c.args.event.now done c.args.running.now allowed c.add_event.new.running)) (sym c.in-Some.is) c.add_event.ensures

pub returns-in-None : goal.returns-in-None
returns-in-None c =
    subst (λ (done : Option (List Action)). IfOk c.add_stop.result (λ allowed. HasAdded c.args.number c.args.event.now done c.args.running.now allowed c.add_stop.new.running)) (sym c.in-None.is) c.add_stop.ensures
