use Rattle.std.proofs.Common.{◌≡◌, flat_map, take}
use Rattle.da_lang.specs.Resolution.{procs_of}
use Rattle.da_scope.proofs.making.processes.Given as goal

abbrev pub invariant-loop-line : goal.invariant-loop-line
invariant-loop-line l = l.procs ≡ flat_map (procs_of l.t) (take l.line-index l.line-items)
