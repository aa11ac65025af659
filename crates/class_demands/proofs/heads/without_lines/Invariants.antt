use Rattle.std.proofs.Common.{◌≡◌, ◌++◌, length}
use Rattle.std.specs.Prelude.{reverse}
use Rattle.class_demands.specs.Walks.{unlined}
use Rattle.class_demands.proofs.heads.without_lines.Given as goal

abbrev pub invariant-loop-last : goal.invariant-loop-last
invariant-loop-last l = unlined l.fn.listed ≡ unlined l.left ++ reverse l.demands

abbrev pub decreases-loop-last : goal.decreases-loop-last
decreases-loop-last l = length l.left
