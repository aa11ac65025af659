use Rattle.std.proofs.Common.{◌≡◌, ◌++◌, drop}
use Rattle.type_demands.specs.Demands.{at_line}
use Rattle.type_demands.specs.KnownView.{context_of}
use Rattle.class_demands.specs.Statements.{have_types}
use Rattle.class_demands.proofs.rules.have_types.Given as goal

abbrev pub invariant-loop-bind : goal.invariant-loop-bind
invariant-loop-bind l =
    let left = have_types (context_of l.known) l.known.queries.now (drop l.bind-index l.binds) l.rest in
    l.demands ++ at_line l.known.line left ≡ l.fn.demands ++ at_line l.known.line (have_types (context_of l.known) l.known.queries.now l.binds l.row)
