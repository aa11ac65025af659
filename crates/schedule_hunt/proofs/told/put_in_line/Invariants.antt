use Rattle.std.proofs.Common.{◌≡◌, ◌++◌, ◌==◌, not, filter, take}
use Rattle.schedule_hunt.proofs.told.put_in_line.Given as goal

abbrev pub invariant-loop-byte : goal.invariant-loop-byte
invariant-loop-byte l = l.out ≡ l.initial.out ++ filter (λ byte. not (byte == 10)) (take l.byte-index l.words)
