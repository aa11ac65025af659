use Rattle.std.proofs.Common.{◌≡◌, map, take}
use Rattle.serde_json.specs.View.{view}
use Rattle.da_commands.specs.PlanJson.{class_data}
use Rattle.da_commands.proofs.plans.program_value.Given as goal

abbrev pub invariant-loop-place : goal.invariant-loop-place
invariant-loop-place l = map view l.values.items ≡ map class_data (take l.place l.classes)
