use Rattle.std.proofs.Common.{drop, map}
use Rattle.da_core.specs.Waits.{all_taken, handler_take}
use Rattle.da_core.proofs.WaitForms.{Came}
use Rattle.da_core.proofs.waits.add_handlers.Given as goal

abbrev pub invariant-handlers : goal.invariant-handlers
invariant-handlers l =
    Came (map handler_take (drop l.handler-index l.handlers)) (all_taken (map handler_take l.handlers) l.initial.flags.rest.now) l.initial.waits l.waits l.flags.rest.now
