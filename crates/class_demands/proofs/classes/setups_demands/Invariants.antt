use Rattle.std.proofs.Common.{◌≡◌, map, take}
use Rattle.class_demands.specs.Programs.{setup_demands}
use Rattle.class_demands.proofs.classes.setups_demands.Given as goal

abbrev pub invariant-loop-proc : goal.invariant-loop-proc
invariant-loop-proc l = l.setups ≡ map (setup_demands l.messages l.classes) (take l.proc-index l.procs)
