use Rattle.std.proofs.Common.{◌≡◌, drop}
use Rattle.std.specs.Prelude.{flat_map, slice_get}
use Rattle.da_lang.specs.Typing.{call_breaks}
use Rattle.da_types.specs.Telling.{telling}
use Rattle.da_types.proofs.check.tell_procs.Given as goal

abbrev pub invariant-loop-process : goal.invariant-loop-process
invariant-loop-process l =
    telling l.least (flat_map (λ d. call_breaks l.messages (slice_get l.classes d.class) d.setup) (drop l.process-index l.procs)) ≡ telling l.initial.least (flat_map (λ d. call_breaks l.messages (slice_get l.classes d.class) d.setup) l.procs)
