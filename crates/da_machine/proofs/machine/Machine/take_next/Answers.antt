use Rattle.std.proofs.Common.{List, Some, subst, sym}
use Rattle.da_values.specs.declared.val.Val.{Val}
use Rattle.da_values.specs.Value.{val_of}
use Rattle.da_machine.specs.Acts.{IsTaken}
use Rattle.da_machine.proofs.Stacks.{taken_some}
use Rattle.da_machine.proofs.machine.Machine.take_next.Goals as goal

pub returns-in_ok-push-in-Some-2 : goal.returns-in_ok-push-in-Some-2
returns-in_ok-push-in-Some-2 c =
    subst (λ (loops : List (List Val)). IsTaken c.args.self.now (record c.args.self.now { loops = loops }) (Some (val_of c.in-Some-2.v))) (sym c.in_ok-push-in-Some-2.ensures.ok)
    (taken_some c.args.self.now c.pop.new.self _ _ (val_of c.in-Some-2.v) c.in-Some.ensures (rw c.in-Some-2.is at c.in_ok-next-in-Some.ensures))
