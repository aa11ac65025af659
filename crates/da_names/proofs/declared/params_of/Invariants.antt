use Rattle.std.proofs.Common.{◌≡◌, take}
use Rattle.da_names.specs.ClassRules.{param_names}
use Rattle.da_bodies.specs.Repeats.{declared_in}
use Rattle.da_names.proofs.declared.params_of.Given as goal

abbrev pub invariant-loop-param : goal.invariant-loop-param
invariant-loop-param l = declared_in l.list ≡ param_names l.line (take l.param-index l.params)
