use Rattle.std.proofs.Common.{◌≡◌, ◌++◌, take}
use Rattle.da_calls.proofs.search.push_all.Given as goal

abbrev pub invariant-loop-number : goal.invariant-loop-number
invariant-loop-number l = l.list ≡ l.fn.list ++ take l.number-index l.numbers
