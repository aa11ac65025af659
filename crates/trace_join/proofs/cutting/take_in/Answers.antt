-- Where the message may arrive, the core decides.
use Rattle.da_core.specs.Compiled.{program_of}
use Rattle.trace_join.proofs.CuttingLaws.{may_arrive_at, may_not_arrive, taken_in}
use Rattle.trace_join.proofs.cutting.take_in.Goals as goal

pub returns-then-not-may_arrive-clause-step : goal.returns-then-not-may_arrive-clause-step
returns-then-not-may_arrive-clause-step c =
    may_not_arrive c.args.core.now c.args.core.now (program_of c.args.compiled.now) c.args.m.now c.args.from c.args.time c.args.told.now c.args.told.now
    c.may_arrive.result c.requires.program c.if-not-may_arrive.true (c.may_arrive.ensures c.args.time)

pub deliver-requires-clause-arrives : goal.deliver-requires-clause-arrives
deliver-requires-clause-arrives c =
    may_arrive_at c.args.core.now (program_of c.args.compiled.now) c.args.m.now c.args.from c.args.time
    c.may_arrive.result c.requires.program c.if-not-may_arrive.false (c.may_arrive.ensures c.args.time)

pub returns-clause-step : goal.returns-clause-step
returns-clause-step c =
    taken_in c.args.core.now c.deliver.new.self c.args.m.now c.args.from c.args.time c.args.told.now c.deliver.new.out
    c.deliver.result c.how_made.result c.deliver.ensures.delivers c.deliver.ensures.forbidden c.how_made.ensures
