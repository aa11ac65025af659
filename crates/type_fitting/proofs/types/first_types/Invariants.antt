use Rattle.type_table.specs.Values.{types_of}
use Rattle.type_fitting.specs.Sights.{AreFirst}
use Rattle.type_fitting.proofs.types.first_types.Given as goal

abbrev pub invariant-loop-number : goal.invariant-loop-number
invariant-loop-number l = AreFirst l.number (types_of l.forms) l.types
