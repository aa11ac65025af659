use Rattle.std.proofs.Common.{refl}
use Rattle.da_values.specs.Value.{val_of}
use Rattle.da_core.proofs.KnownLaws.{all_held, known_added, laid_out, lower_plan, plain_nodes, spares_slot, takes_some}
use Rattle.da_core.proofs.known.Known.add_to.Goals as goal

pub insert-requires : goal.insert-requires
insert-requires c =
    let known = c.args.self.now in
    let some = takes_some known c.args.s (val_of c.args.v.now) c.requires in
    record { plan = lower_plan known some; plain = plain_nodes known some; laid = laid_out known some; held = all_held known some; spared = spares_slot known c.args.s (val_of c.args.v.now) c.requires }

pub returns-clause-known : goal.returns-clause-known
returns-clause-known c =
    known_added c.args.self.now c.insert.new.answers c.insert.new.pool c.args.self.now.clock c.args.self.now.actions c.in_ok-insert.ensures.laid c.in_ok-insert.ensures.held refl c.args.s (val_of c.args.v.now) c.in_ok-insert.ensures.kept
