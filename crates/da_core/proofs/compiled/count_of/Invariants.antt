use Rattle.std.proofs.Common.{◌≡◌, ◌+◌, ◌≤◌, drop}
use Rattle.da_core.specs.Compiled.{count_of}
use Rattle.da_core.proofs.compiled.count_of.Given as goal

abbrev pub invariant-loop-decl : goal.invariant-loop-decl
invariant-loop-decl l = (l.count + count_of l.class (drop l.decl-index l.procs) ≡ count_of l.class l.procs) × (l.count ≤ l.decl-index)
