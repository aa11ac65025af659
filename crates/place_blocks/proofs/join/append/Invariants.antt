use Rattle.std.proofs.Common.{◌≡◌, ◌++◌, take}
use Rattle.place_blocks.proofs.join.append.Given as goal

abbrev pub invariant-loop-place : goal.invariant-loop-place
invariant-loop-place l = l.list ≡ l.fn.list ++ take l.place-index l.places
