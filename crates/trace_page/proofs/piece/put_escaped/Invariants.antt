use Rattle.std.proofs.Common.{◌≡◌, ◌++◌, take}
use Rattle.trace_page.specs.Parts.{escaped}
use Rattle.trace_page.proofs.piece.put_escaped.Given as goal

abbrev pub invariant-loop-byte : goal.invariant-loop-byte
invariant-loop-byte l = l.out ≡ l.fn.out ++ escaped (take l.byte-index l.text)
