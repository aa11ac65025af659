use Rattle.std.proofs.Common.{◌≡◌, ◌++◌, take, flat_map}
use Rattle.da_bodies.specs.Repeats.{declared_in}
use Rattle.da_bodies.specs.Variables.{gen_variables_at}
use Rattle.da_bodies.proofs.variables.put_gens.Given as goal

abbrev pub invariant-loop-generator : goal.invariant-loop-generator
invariant-loop-generator l = declared_in l.out ≡ declared_in l.initial.out ++ flat_map (gen_variables_at l.line) (take l.generator-index l.gens)
