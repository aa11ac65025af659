use Rattle.std.proofs.Common.{take}
use Rattle.code_gen.specs.Made.{MadeHandlers}
use Rattle.code_gen.proofs.classes.emit_handlers.Given as goal

abbrev pub invariant-bodies : goal.invariant-bodies
invariant-bodies l = MadeHandlers l.initial.code l.code (take l.handler-index l.handlers) l.entries
