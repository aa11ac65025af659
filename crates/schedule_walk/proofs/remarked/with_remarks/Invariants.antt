use Rattle.std.proofs.Common.{take}
use Rattle.schedule_walk.specs.Next.{AreRemarked}
use Rattle.schedule_walk.proofs.remarked.with_remarks.Given as goal

abbrev pub invariant-loop-place : goal.invariant-loop-place
invariant-loop-place l = AreRemarked (take l.place l.events) l.out
