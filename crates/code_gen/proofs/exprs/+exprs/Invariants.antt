use Rattle.std.proofs.Common.{take}
use Rattle.code_gen.specs.Made.{MadeExprs, MadeParts}
use Rattle.code_gen.proofs.ExprCode.{Operands}
use Rattle.code_gen.proofs.exprs.+exprs.Given as goal

abbrev pub invariant-emit_exprs-exprs : goal.invariant-emit_exprs-exprs
invariant-emit_exprs-exprs l = MadeExprs l.initial.code l.code (take l.e-index l.es)

abbrev pub invariant-emit_parts-parts : goal.invariant-emit_parts-parts
invariant-emit_parts-parts l = MadeParts l.initial.code l.code (take l.part-index l.parts)

abbrev pub invariant-emit_tests-operands : goal.invariant-emit_tests-operands
invariant-emit_tests-operands l = Operands l.initial.code l.code (take l.operand-index l.operands) l.holes
