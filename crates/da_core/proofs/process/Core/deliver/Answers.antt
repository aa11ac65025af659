use Rattle.std.proofs.Common.{rules}
use Rattle.da_values.specs.Value.{val_of}
use Rattle.da_core.proofs.Delivering.{arrives_there, begins_there, no_arrival}
use Rattle.da_core.proofs.process.Core.deliver.Goals as goal

pub returns-then-not-lets_arrive-clause-forbidden : goal.returns-then-not-lets_arrive-clause-forbidden
returns-then-not-lets_arrive-clause-forbidden c = λ fault w s.
    no_arrival c.args.self.now w s (val_of c.args.m.now) c.args.from c.args.time c.lets_arrive.result (search rules) (c.lets_arrive.ensures w s c.args.time)

pub returns-in_default-clause-allowed : goal.returns-in_default-clause-allowed
returns-in_default-clause-allowed c = λ w s none.
    absurd (arrives_there c.args.self.now w s (val_of c.args.m.now) c.args.from c.args.time ((c.lets_arrive.ensures w s c.args.time).0 (search rules)) none)

pub returns-in_default-clause-prefix : goal.returns-in_default-clause-prefix
returns-in_default-clause-prefix c = λ fault w s.
    begins_there c.args.self.now w s (val_of c.args.m.now) c.args.from c.args.time ((c.lets_arrive.ensures w s c.args.time).0 (search rules)) c.args.out.now

pub returns-clause-allowed : goal.returns-clause-allowed
returns-clause-allowed c = λ w s none.
    absurd (arrives_there c.args.self.now w s (val_of c.args.m.now) c.args.from c.args.time ((c.lets_arrive.ensures w s c.args.time).0 (search rules)) none)
