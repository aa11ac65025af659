use Rattle.da_core.proofs.Compiling.{Came}
use Rattle.da_core.proofs.compiled.compile.Given as goal

abbrev pub invariant-classes : goal.invariant-classes
invariant-classes l = Came l.fn.t l.codes l.least l.place
