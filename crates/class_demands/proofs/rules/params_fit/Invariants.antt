use Rattle.std.proofs.Common.{◌≡◌, ◌++◌, take}
use Rattle.type_demands.specs.Demands.{at_line}
use Rattle.type_demands.specs.KnownView.{context_of}
use Rattle.class_demands.specs.Statements.{fits_params}
use Rattle.class_demands.proofs.rules.params_fit.Given as goal

abbrev pub invariant-loop-arg : goal.invariant-loop-arg
invariant-loop-arg l = l.demands ≡ l.fn.demands ++ at_line l.known.line (fits_params (context_of l.known) l.known.queries.now (take l.arg-index l.args))
