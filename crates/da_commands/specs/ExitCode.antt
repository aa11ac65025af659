-- The exit status of the process.
use Rattle.std.specs.Prelude.{ℕ}
use Rattle.da_commands.specs.declared.status.Status.{Status}
use Rattle.da_commands.specs.declared.status.Status.TheVariants.{Done, Refused, Words, Forbidden, BadSchedule, ReadFault, WriteFault, Memory, LinkFault, Idle, Spent, Faulted, ChildFault, ChildStatus, BadTrace, NoJoin}

abbrev pub code_of : Status → ℕ
code_of Done = 0
code_of (Refused kind line) = 1
code_of Words = 2
code_of (Forbidden event) = 3
code_of (BadSchedule line) = 4
code_of ReadFault = 5
code_of WriteFault = 6
code_of Memory = 7
code_of LinkFault = 8
code_of Idle = 9
code_of Spent = 10
code_of Faulted = 11
code_of ChildFault = 12
code_of (ChildStatus child status) = 13
code_of (BadTrace process line) = 14
code_of NoJoin = 15
