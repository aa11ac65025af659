use Rattle.std.proofs.Common.{◌≡◌, ◌++◌, drop}
use Rattle.type_demands.specs.Demands.{at_line}
use Rattle.type_demands.specs.KnownView.{context_of}
use Rattle.class_demands.specs.Statements.{args_fit}
use Rattle.class_demands.proofs.rules.args_fit.Given as goal

abbrev pub invariant-loop-param : goal.invariant-loop-param
invariant-loop-param l =
    let left = args_fit (context_of l.known) l.known.queries.now (drop l.param-index l.params) l.rest in
    l.demands ++ at_line l.known.line left ≡ l.fn.demands ++ at_line l.known.line (args_fit (context_of l.known) l.known.queries.now l.params l.args)
