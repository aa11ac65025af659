use Rattle.std.proofs.Common.{◌≡◌, filter_map, take}
use Rattle.da_lang.specs.NameRules.{named_body}
use Rattle.da_bodies.specs.BodyView.{body_view}
use Rattle.da_bodies.specs.Repeats.{declared_in}
use Rattle.da_names.proofs.declared.methods_of.Given as goal

abbrev pub invariant-loop-body : goal.invariant-loop-body
invariant-loop-body l = declared_in l.list ≡ filter_map (λ b. named_body (body_view b)) (take l.body-index l.bodies)
