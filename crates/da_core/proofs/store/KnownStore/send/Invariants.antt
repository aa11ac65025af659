use Rattle.std.proofs.Common.{map, drop}
use Rattle.da_values.specs.Value.{val_of, vals}
use Rattle.da_values.specs.Views.{proc_of}
use Rattle.da_core.proofs.Sending.{Sends}
use Rattle.da_core.proofs.store.KnownStore.send.Given as goal

abbrev pub invariant-processes : goal.invariant-processes
invariant-processes l = Sends (val_of l.m) (map proc_of l.to) (map proc_of (vals (drop l.process-index l.processes))) l.initial.self l.self
