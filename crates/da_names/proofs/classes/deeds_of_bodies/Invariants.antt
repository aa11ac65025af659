use Rattle.std.proofs.Common.{◌≡◌, flat_map, take}
use Rattle.da_lang.specs.Deeds.{deeds}
use Rattle.da_names.specs.DeedView.{deeds_in}
use Rattle.da_names.proofs.classes.deeds_of_bodies.Given as goal

abbrev pub invariant-loop-body : goal.invariant-loop-body
invariant-loop-body l = deeds_in l.list ≡ flat_map (λ b. deeds b.stmts.now) (take l.body-index l.bodies)
