use Rattle.std.proofs.Common.{◌≡◌, filter_map, take}
use Rattle.da_names.specs.ClassRules.{variable_name}
use Rattle.da_bodies.specs.Repeats.{declared_in}
use Rattle.da_names.proofs.declared.variables_of.Given as goal

abbrev pub invariant-loop-member : goal.invariant-loop-member
invariant-loop-member l = declared_in l.list ≡ filter_map variable_name (take l.member-index l.member-items)
