use Rattle.std.proofs.Common.{Bool, List, ap, ◌∙◌}
use Rattle.class_demands.specs.Marks.{is_marked}
use Rattle.class_demands.proofs.MarkLaws.{marked_more}
use Rattle.class_demands.proofs.prefix.make_room.Goals as goal

pub room-preserved : goal.room-preserved
room-preserved c = λ k. ap (λ (u : List Bool). is_marked u k) c.in_ok-push.ensures.ok ∙ marked_more c.room.used k ∙ c.room.invariant k
