use Rattle.std.proofs.Common.{◌≡◌}
use Rattle.da_core.specs.Compiled.{program_of as compiled_program}
use Rattle.da_core.specs.StandsFor.{IsReady, program_of}
use Rattle.run_hints.proofs.retrace.follow.Given as goal

abbrev pub invariant-loop-step : goal.invariant-loop-step
invariant-loop-step l = record {
  program : program_of l.core ≡ program_of l.fn.core;
  same : program_of l.core ≡ compiled_program l.compiled;
  ready : IsReady l.core;
}
