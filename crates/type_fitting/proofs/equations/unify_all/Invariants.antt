use Rattle.std.proofs.Common.{drop}
use Rattle.type_fitting.proofs.LoopLaws.{Unified}
use Rattle.type_fitting.proofs.equations.unify_all.Given as goal

abbrev pub invariant-loop-equation : goal.invariant-loop-equation
invariant-loop-equation l = Unified l.initial.forms l.equations l.forms (drop l.equation-index l.equations)
