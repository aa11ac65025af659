use Rattle.std.proofs.Common.{drop}
use Rattle.type_demands.specs.KnownView.{context_of}
use Rattle.da_typing.proofs.Walks.{nothing_left}
use Rattle.class_demands.proofs.StatementForms.{args_stop}
use Rattle.class_demands.proofs.rules.args_fit.Goals as goal

pub returns-in-empty : goal.returns-in-empty
returns-in-empty c =
    args_stop (context_of c.args.known.now) c.args.known.now.queries.now c.args.known.now.line (drop c.loop-param.param-index c.args.params.now) c.loop-param.rest.now _ _ (nothing_left c.loop-param.rest.now c.in-empty.len_below) c.loop-param.invariant
