use Rattle.std.proofs.Common.{◌≡◌, ◌++◌, take}
use Rattle.std.specs.Prelude.{flat_map}
use Rattle.type_demands.specs.KnownView.{context_of}
use Rattle.class_demands.specs.Statements.{handler_demands}
use Rattle.class_demands.proofs.items.handlers_demands.Given as goal

abbrev pub invariant-loop-handler : goal.invariant-loop-handler
invariant-loop-handler l = l.demands ≡ l.fn.demands ++ flat_map (handler_demands (context_of l.known) l.known.queries.now) (take l.handler-index l.handlers)
