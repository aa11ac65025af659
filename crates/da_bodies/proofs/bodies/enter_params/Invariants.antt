use Rattle.std.proofs.Common.{◌≡◌, take, map}
use Rattle.da_lang.specs.ExprNames.{Local}
use Rattle.da_bodies.specs.Told.{entered_each}
use Rattle.da_bodies.proofs.bodies.enter_params.Given as goal

abbrev pub invariant-loop-param : goal.invariant-loop-param
invariant-loop-param l = l.names ≡ entered_each Local (map (λ p. p.name) (take l.param-index l.params)) l.initial.names
