use Rattle.da_machine.specs.Forward.{instrs_left}
use Rattle.da_machine.proofs.Running.{Running}
use Rattle.da_machine.proofs.run.run_machine.Given as goal

abbrev pub invariant-instrs : goal.invariant-instrs
invariant-instrs g l = Running l.code l.initial.m l.m (g.S.Store.stands l.initial.s) (g.S.Store.stands l.s) (g.S.Store.actions l.initial.s) (g.S.Store.actions l.s)

abbrev pub decreases-instrs : goal.decreases-instrs
decreases-instrs g l = instrs_left l.code l.m.turns l.m.place
