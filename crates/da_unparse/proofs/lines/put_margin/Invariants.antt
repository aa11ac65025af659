use Rattle.std.proofs.Common.{◌≡◌, ◌++◌, ◌*◌, replicate}
use Rattle.da_unparse.proofs.lines.put_margin.Given as goal

abbrev pub invariant-loop-turn : goal.invariant-loop-turn
invariant-loop-turn l = l.out ≡ l.fn.out ++ replicate (4 * l._turn) 32
