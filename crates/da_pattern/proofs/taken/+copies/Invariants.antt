use Rattle.std.proofs.Common.{◌≡◌, ◌++◌, map, drop}
use Rattle.da_pattern.specs.Taken.{taken, taken_parts}
use Rattle.da_values.specs.Value.{vals}
use Rattle.da_pattern.proofs.taken.+copies.Given as goal

abbrev pub invariant-copy_parts-loop-p : goal.invariant-copy_parts-loop-p
invariant-copy_parts-loop-p l =
    l.initial.row ++ taken_parts (map taken l.parts) (vals l.values) ≡ l.row ++ taken_parts (map taken (drop l.p-index l.parts)) (vals l.others)
