use Rattle.da_core.proofs.Arriving.{Came}
use Rattle.da_core.proofs.deliveries.handle_all.Given as goal

abbrev pub invariant-handlers : goal.invariant-handlers
invariant-handlers l = Came l.delivery l.handler-iterator.a.rest.now l.handler-iterator.b.rest.now l.turns l.initial.known l.known
