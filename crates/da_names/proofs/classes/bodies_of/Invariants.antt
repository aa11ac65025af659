use Rattle.std.proofs.Common.{◌≡◌, filter_map, take}
use Rattle.da_lang.specs.ClassParts.{body_in}
use Rattle.da_names.specs.ClassRules.{bodies_in}
use Rattle.da_names.proofs.classes.bodies_of.Given as goal

abbrev pub invariant-loop-member : goal.invariant-loop-member
invariant-loop-member l = bodies_in l.list ≡ filter_map body_in (take l.member-index l.member-items)
