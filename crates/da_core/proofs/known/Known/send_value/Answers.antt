use Rattle.da_values.specs.Value.{val_of}
use Rattle.da_core.proofs.KnownLaws.{all_held, known_sent, laid_out, lower_plan, plain_nodes}
use Rattle.da_core.proofs.known.Known.send_value.Goals as goal

pub insert-requires : goal.insert-requires
insert-requires c =
    let known = c.args.self.now in
    record { plan = lower_plan known c.requires; plain = plain_nodes known c.requires; laid = laid_out known c.requires; held = all_held known c.requires; spared = tt }

pub returns-clause-known : goal.returns-clause-known
returns-clause-known c =
    known_sent c.args.self.now c.insert.new.answers c.insert.new.pool c.later_time-time.result c.push.new.self c.in_ok-insert.ensures.laid c.in_ok-insert.ensures.held (val_of c.args.m) c.args.to c.later_time-time.ensures c.in_ok-insert.ensures.kept
