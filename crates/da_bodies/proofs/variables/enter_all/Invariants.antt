use Rattle.std.proofs.Common.{◌≡◌, take, map}
use Rattle.da_bodies.specs.ScopeView.{role_of}
use Rattle.da_bodies.specs.Told.{entered_each}
use Rattle.da_bodies.proofs.variables.enter_all.Given as goal

abbrev pub invariant-loop-one : goal.invariant-loop-one
invariant-loop-one l = l.names ≡ entered_each (role_of l.role) (map (λ d. d.name.now) (take l.one-index l.declared)) l.initial.names
