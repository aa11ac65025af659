-- What the code found a request to be answered with, as the definition has it.
use Rattle.lsp_server.specs.declared.due.Due.{Due}
use Rattle.lsp_server.specs.declared.due.Due.TheVariants.{Begins, Ends, Known, Fails}
use Rattle.lsp_server.specs.Session as session

abbrev pub due_view : Due → session.Due
due_view Begins = session.some
due_view Ends = session.nothing
due_view Known = session.tried
due_view (Fails why) = session.fails why
