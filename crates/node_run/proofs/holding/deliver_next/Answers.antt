use Rattle.std.proofs.Common.{ap}
use Rattle.da_core.specs.Compiled.{program_of}
use Rattle.da_lang.specs.declared.program.Program.{Program}
use Rattle.node_run.proofs.DeliveryLaws.{next_at}
use Rattle.node_run.proofs.holding.deliver_next.Goals as goal

pub deliver-requires-clause-next : goal.deliver-requires-clause-next
deliver-requires-clause-next g c =
    next_at (program_of c.args.c.now) c.args.running.now _ (ap (λ (p : Program). p.kind) c.program.ensures) c.next_place.result c.requires.standing (rw c.as_slice.ensures at c.next_place.ensures) c.in-Some.place c.in-Some.is
