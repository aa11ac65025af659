-- The exit status of the process.
use Rattle.std.specs.Prelude.{ℕ}
use Rattle.scout_commands.specs.declared.status.Status.{Status}
use Rattle.scout_commands.specs.declared.status.Status.TheVariants.{Done, Refused, WatchRefused, Words, Forbidden, BadLine, ReadFault, WriteFault, Memory, Found, Unspelled}

abbrev pub code_of : Status → ℕ
code_of Done = 0
code_of (Refused kind line) = 1
code_of (WatchRefused kind line) = 1
code_of Words = 2
code_of (Forbidden event) = 3
code_of (BadLine line) = 4
code_of ReadFault = 5
code_of WriteFault = 6
code_of Memory = 7
code_of Found = 10
code_of Unspelled = 16
