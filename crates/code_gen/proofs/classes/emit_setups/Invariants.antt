use Rattle.std.proofs.Common.{take}
use Rattle.code_gen.specs.Made.{MadeSetups}
use Rattle.code_gen.specs.Open.{own_setups}
use Rattle.code_gen.proofs.classes.emit_setups.Given as goal

abbrev pub invariant-openings : goal.invariant-openings
invariant-openings l = MadeSetups l.initial.code l.code l.class (own_setups l.number (take l.proc-index l.procs)) l.starts l.leaves
