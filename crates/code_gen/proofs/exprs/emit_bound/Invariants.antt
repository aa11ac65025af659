use Rattle.std.proofs.Common.{length}
use Rattle.da_lang.specs.declared.program.BindArg.{BindArg}
use Rattle.da_lang.specs.Turns.{slot_of_arg}
use Rattle.code_gen.proofs.ExprCode.{Storing}
use Rattle.code_gen.proofs.exprs.emit_bound.Given as goal

abbrev pub invariant-bound : goal.invariant-bound
invariant-bound l = Storing BindArg slot_of_arg l.args l.left l.initial.code l.code

abbrev pub decreases-bound : goal.decreases-bound
decreases-bound l = length l.left
