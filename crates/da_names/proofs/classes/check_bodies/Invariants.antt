use Rattle.std.proofs.Common.{◌≡◌, flat_map, take}
use Rattle.da_bodies.specs.BodyView.{body_view}
use Rattle.da_calls.specs.CallGraph.{class_in}
use Rattle.da_names.specs.ClassRules.{body_refusals}
use Rattle.da_bodies.specs.Telling.{telling}
use Rattle.da_names.proofs.classes.check_bodies.Given as goal

abbrev pub invariant-loop-body : goal.invariant-loop-body
invariant-loop-body l = record {
  told : l.least ≡ telling l.initial.least (flat_map (λ b. body_refusals (class_in l.graph) l.initial.names (body_view b)) (take l.body-index l.bodies));
  same : l.names ≡ l.initial.names;
}
