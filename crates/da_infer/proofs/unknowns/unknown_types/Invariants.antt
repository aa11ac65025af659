use Rattle.std.specs.List.{All}
use Rattle.type_fitting.specs.Declarable.{IsDeclarable}
use Rattle.da_infer.specs.Unknowns.{AreUnknowns}
use Rattle.da_infer.proofs.unknowns.unknown_types.Given as goal

abbrev pub invariant-loop-number : goal.invariant-loop-number
invariant-loop-number l = record {
  unknowns : AreUnknowns l.number l.types;
  declarable : All IsDeclarable l.types;
}
