use Rattle.da_machine.proofs.Prefixes.{on_err}
use Rattle.da_core.proofs.Sending.{one_sent, one_stopped, one_told}
use Rattle.da_core.proofs.store.KnownStore.send_to.Goals as goal

pub send_value-requires : goal.send_value-requires
send_value-requires c = let (p, class, d, knows, known, may) = c.requires in (p, class, d, knows)

pub returns-in_err-send_value-clause-prefix : goal.returns-in_err-send_value-clause-prefix
returns-in_err-send_value-clause-prefix c = on_err _ _ (one_stopped c.args.m c.args.to c.args.self.now c.send_value.new.self c.in_err-send_value.ensures.prefix)

pub returns-clause-stands : goal.returns-clause-stands
returns-clause-stands c = one_sent c.args.m c.args.to c.args.self.now c.send_value.new.self c.in_ok-send_value.ensures.known

pub returns-clause-actions : goal.returns-clause-actions
returns-clause-actions c = one_told c.args.m c.args.to c.args.self.now c.send_value.new.self c.in_ok-send_value.ensures.actions
