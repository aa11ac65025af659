-- The exit status of the process.
use Rattle.std.specs.Prelude.{ℕ}
use Rattle.lsp_server.specs.declared.status.Status.{Status}
use Rattle.lsp_server.specs.declared.status.Status.TheVariants.{Stopped, Left, Closed, ReadFault, WriteFault, Memory, Spent}

-- 0 after `shutdown` and `exit`, and 1 after `exit` alone, or where the stream has ended
abbrev pub code_of : Status → ℕ
code_of Stopped = 0
code_of Left = 1
code_of Closed = 1
code_of ReadFault = 5
code_of WriteFault = 6
code_of Memory = 7
code_of Spent = 10
