use Rattle.std.proofs.Common.{map, take}
use Rattle.da_lang.specs.Turns.{value_of_arg}
use Rattle.code_gen.specs.Made.{MadeExprs}
use Rattle.code_gen.proofs.exprs.emit_values.Given as goal

abbrev pub invariant-values : goal.invariant-values
invariant-values l = MadeExprs l.initial.code l.code (map value_of_arg (take l.arg-index l.args))
