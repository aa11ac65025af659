use Rattle.std.proofs.Common.{◌≡◌, take}
use Rattle.da_bodies.specs.BodyView.{told_params}
use Rattle.da_bodies.proofs.bodies.check_params.Given as goal

abbrev pub invariant-loop-param : goal.invariant-loop-param
invariant-loop-param l = l.least ≡ told_params l.line l.names l.initial.least (take l.param-index l.params)
