use Rattle.std.proofs.Common.{◌≡◌, drop}
use Rattle.da_lang.specs.Typing.{with_types}
use Rattle.da_types.proofs.flow.give_types.Given as goal

abbrev pub invariant-loop-bind : goal.invariant-loop-bind
invariant-loop-bind l = with_types (drop l.bind-index l.binds) l.rest l.slots ≡ with_types l.binds l.types l.initial.slots
