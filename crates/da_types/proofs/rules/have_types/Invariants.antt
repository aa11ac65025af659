use Rattle.std.proofs.Common.{◌≡◌, drop}
use Rattle.da_lang.specs.Typing.{have_types}
use Rattle.da_types.proofs.rules.have_types.Given as goal

abbrev pub invariant-loop-bind : goal.invariant-loop-bind
invariant-loop-bind l = have_types l.known.messages.now l.queries l.known.slots.now (drop l.bind-index l.binds) l.rest ≡ have_types l.known.messages.now l.queries l.known.slots.now l.binds l.types
