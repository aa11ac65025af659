use Rattle.std.proofs.Common.{◌≡◌, drop}
use Rattle.std.specs.Prelude.{flat_map}
use Rattle.quant_norm.specs.Making.{handler_met, made_with}
use Rattle.quant_norm.proofs.classes.put_handlers.Given as goal

abbrev pub invariant-loop-handler : goal.invariant-loop-handler
invariant-loop-handler l = made_with (flat_map handler_met l.handlers) (l.fn.plan, drop l.fn.taken l.queries) ≡ made_with (flat_map handler_met (drop l.handler-index l.handlers)) (l.plan, drop l.next l.queries)
