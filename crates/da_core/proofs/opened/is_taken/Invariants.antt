use Rattle.std.specs.Prelude.{◌≡◌, map}
use Rattle.da_core.specs.Opened.{opened}
use Rattle.da_core.proofs.Letting.{Decides}
use Rattle.da_core.proofs.opened.is_taken.Given as goal

abbrev pub invariant-handlers : goal.invariant-handlers
invariant-handlers l =
    l.delivery.code.now.opened ≡ map opened l.delivery.class.now.handlers
    → Decides l.delivery l.me l.held l.handler-iterator.a.rest.now l.handler-iterator.b.rest.now
