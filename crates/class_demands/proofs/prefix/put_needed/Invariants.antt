use Rattle.std.proofs.Common.{◌≤◌, length}
use Rattle.class_demands.specs.Prefix.{seen}
use Rattle.class_demands.proofs.MarkLaws.{NeedsLeft}
use Rattle.class_demands.proofs.prefix.put_needed.Given as goal

abbrev pub invariant-loop-left : goal.invariant-loop-left
invariant-loop-left l = (l.left ≤ length l.heads) × NeedsLeft l.heads l.left l.initial.used (seen l.initial.found) l.used (seen l.found)

abbrev pub decreases-loop-left : goal.decreases-loop-left
decreases-loop-left l = l.left
