-- Numbers that stop at the greatest that is counted, which is above each limit.
use Rattle.std.specs.Prelude.{ℕ, min}

abbrev pub capped : ℕ → ℕ
capped n = min n 65535
