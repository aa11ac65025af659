use Rattle.std.proofs.Common.{arith, drop, length-drop}
use Rattle.type_demands.specs.KnownView.{context_of}
use Rattle.da_typing.proofs.Walks.{nothing_left}
use Rattle.class_demands.proofs.StatementForms.{types_stop}
use Rattle.class_demands.proofs.rules.have_types.Goals as goal

pub returns-in-empty : goal.returns-in-empty
returns-in-empty c =
    types_stop (context_of c.args.known.now) c.args.known.now.queries.now c.args.known.now.line (drop c.loop-bind.bind-index c.args.binds.now) c.loop-bind.rest.now _ _ _
    (omega (arith, length-drop c.loop-bind.bind-index c.args.binds.now, c.loop-bind-test.true))
    (nothing_left c.loop-bind.rest.now c.in-empty.len_below) c.in_ok-put-in-empty.ensures c.loop-bind.invariant
