use Rattle.std.proofs.Common.{◌≡◌, take, map}
use Rattle.da_bodies.specs.Repeats.{declared_in}
use Rattle.da_names.proofs.top_names.tags_declared.Given as goal

abbrev pub invariant-loop-message : goal.invariant-loop-message
invariant-loop-message l = declared_in l.tags ≡ map (λ x. (x.tag, x.line)) (take l.message-index l.messages)
