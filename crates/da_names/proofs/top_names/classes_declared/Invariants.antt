use Rattle.std.proofs.Common.{◌≡◌, take, map}
use Rattle.da_bodies.specs.Repeats.{declared_in}
use Rattle.da_names.proofs.top_names.classes_declared.Given as goal

abbrev pub invariant-loop-class : goal.invariant-loop-class
invariant-loop-class l = declared_in l.names ≡ map (λ c. (c.name, c.line)) (take l.class-index l.classes)
