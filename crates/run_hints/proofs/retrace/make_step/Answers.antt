use Rattle.da_core.specs.Compiled.{program_of}
use Rattle.trace_join.proofs.CuttingLaws.{may_arrive_at}
use Rattle.run_hints.proofs.retrace.make_step.Goals as goal

pub deliver-requires-clause-arrives : goal.deliver-requires-clause-arrives
deliver-requires-clause-arrives c =
    may_arrive_at c.args.core.now (program_of c.args.compiled.now) c.in-Got.v c.in-Got.p c.in-Got.t
    c.may_arrive.result c.requires.program c.if-may_arrive.true (c.may_arrive.ensures c.in-Got.t)
