use Rattle.std.proofs.Common.{◌≡◌, ◌++◌, drop, map}
use Rattle.untyped_laws.specs.Flow.{handler_steps, joined}
use Rattle.class_demands.specs.Heads.{after_steps, heads}
use Rattle.class_demands.proofs.heads.handlers_heads.Given as goal

abbrev pub invariant-loop-handler : goal.invariant-loop-handler
invariant-loop-handler l =
    let left = joined (map handler_steps (drop l.handler-index l.handlers)) in
    let whole = joined (map handler_steps l.handlers) in
    (after_steps l.messages l.queries left l.slots ≡ after_steps l.messages l.queries whole l.initial.slots)
    × (l.heads ++ heads l.messages l.queries left l.slots ≡ l.initial.heads ++ heads l.messages l.queries whole l.initial.slots)
