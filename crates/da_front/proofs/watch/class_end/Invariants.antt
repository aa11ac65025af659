use Rattle.std.proofs.Common.{◌≡◌, length}
use Rattle.da_front.specs.WatchText.{class_end}
use Rattle.da_front.proofs.watch.class_end.Given as goal

abbrev pub invariant-pieces : goal.invariant-pieces
invariant-pieces l = class_end l.text l.rest ≡ class_end l.text l.fn.tokens

abbrev pub decreases-pieces : goal.decreases-pieces
decreases-pieces l = length l.rest
