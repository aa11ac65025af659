use Rattle.std.proofs.Common.{◌≡◌, ◌++◌, take, flat_map}
use Rattle.da_bodies.specs.Repeats.{declared_in}
use Rattle.da_bodies.specs.Variables.{variables_at}
use Rattle.da_bodies.proofs.variables.+variables.Given as goal

abbrev pub invariant-put_parts-loop-part : goal.invariant-put_parts-loop-part
invariant-put_parts-loop-part l = declared_in l.out ≡ declared_in l.initial.out ++ flat_map (variables_at l.line) (take l.part-index l.parts)
