use Rattle.std.proofs.Common.{◌-◌, length}
use Rattle.da_machine.proofs.Bindings.{Binding}
use Rattle.da_machine.proofs.effects.bind.Given as goal

abbrev pub invariant-slots : goal.invariant-slots
invariant-slots g l = Binding (g.S.Store.stands l.initial.s) (g.S.Store.stands l.s) (g.S.Store.actions l.initial.s) (g.S.Store.actions l.s) l.fn.slots l.fn.row l.place

abbrev pub decreases-slots : goal.decreases-slots
decreases-slots g l = length l.fn.slots - l.place
