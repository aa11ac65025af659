use Rattle.std.proofs.Common.{ap, map}
use Rattle.da_values.specs.Value.{val_of}
use Rattle.da_values.specs.Views.{proc_of}
use Rattle.da_machine.proofs.Prefixes.{on_err}
use Rattle.da_core.proofs.Sending.{sends_end, sends_first, sends_next, sends_some, sends_stop, sends_told}
use Rattle.da_core.proofs.store.KnownStore.send.Goals as goal

pub send_one-requires : goal.send_one-requires
send_one-requires c =
    let (p, class, d, knows, known, may) = c.requires in
    sends_some (val_of c.args.m.now) (map proc_of c.args.to.now) _ c.args.self.now c.processes.self (p, class, d, knows) c.processes.invariant

pub returns-in_err-send_one-clause-prefix : goal.returns-in_err-send_one-clause-prefix
returns-in_err-send_one-clause-prefix c =
    on_err _ _
    (sends_stop c.args.m.now c.as_slice-processes.result.now c.processes.process-index c.process-item.result c.number_of.result (map proc_of c.args.to.now) c.args.self.now c.processes.self c.send_one.new.self
    c.processes-test.true c.process-item.is c.number_of.ensures c.processes.invariant c.in_err-send_one.ensures.prefix)

pub processes-init : goal.processes-init
processes-init c = sends_first (val_of c.args.m.now) (map proc_of c.args.to.now) _ c.args.self.now (ap (map proc_of) c.as_slice-processes.ensures.items)

pub processes-preserved : goal.processes-preserved
processes-preserved c =
    sends_next c.args.m.now c.as_slice-processes.result.now c.processes.process-index c.process-item.result c.number_of.result (map proc_of c.args.to.now) c.args.self.now c.processes.self c.send_one.new.self
    c.processes-test.true c.process-item.is c.number_of.ensures c.processes.invariant c.in_ok-send_one.ensures.known c.in_ok-send_one.ensures.actions

pub returns-clause-stands : goal.returns-clause-stands
returns-clause-stands c =
    sends_end (val_of c.args.m.now) c.as_slice-processes.result.now c.processes.process-index (map proc_of c.args.to.now) c.args.self.now c.processes.self c.processes-test.false c.processes.invariant

pub returns-clause-actions : goal.returns-clause-actions
returns-clause-actions c =
    sends_told (val_of c.args.m.now) c.as_slice-processes.result.now c.processes.process-index (map proc_of c.args.to.now) c.args.self.now c.processes.self c.processes-test.false c.processes.invariant
