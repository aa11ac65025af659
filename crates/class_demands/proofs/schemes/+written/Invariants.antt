use Rattle.std.proofs.Common.{◌≡◌, map, take}
use Rattle.class_demands.specs.Unknowns.{written}
use Rattle.class_demands.proofs.schemes.+written.Given as goal

abbrev pub invariant-written_parts-loop-part : goal.invariant-written_parts-loop-part
invariant-written_parts-loop-part l = l.schemes ≡ map written (take l.part-index l.parts)
