use Rattle.std.proofs.Common.{◌≡◌, ◌++◌, map, take}
use Rattle.schedule_walk.specs.Next.{shown_byte}
use Rattle.schedule_walk.proofs.remarked.put_plain.Given as goal

abbrev pub invariant-loop-byte : goal.invariant-loop-byte
invariant-loop-byte l = l.out ≡ l.fn.out ++ map shown_byte (take l.byte-index l.bytes)
