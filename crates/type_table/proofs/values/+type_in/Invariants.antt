use Rattle.std.proofs.Common.{◌≡◌, ◌-◌, map, take}
use Rattle.type_table.specs.Values.{types_in}
use Rattle.type_table.proofs.values.+type_in.Given as goal

abbrev pub decreases-type_in : goal.decreases-type_in
decreases-type_in l = l.rounds

abbrev pub invariant-loop-part : goal.invariant-loop-part
invariant-loop-part l = l.types ≡ map (types_in l.forms (l.rounds - 1)) (take l.part-index l.part-items)
