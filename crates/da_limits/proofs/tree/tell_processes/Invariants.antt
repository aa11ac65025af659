use Rattle.std.proofs.Common.{◌≡◌, drop}
use Rattle.da_lang.specs.Limits.{processes_over}
use Rattle.da_limits.proofs.tree.tell_processes.Given as goal

abbrev pub invariant-loop-line : goal.invariant-loop-line
invariant-loop-line l = record {
  told : l.least ≡ l.initial.least;
  over : processes_over l.made (drop l.line-index l.main) ≡ processes_over 0 l.main;
}
