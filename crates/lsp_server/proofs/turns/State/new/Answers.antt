use Rattle.lsp_server.proofs.turns.State.new.Goals as goal

pub returns-clause-stream : goal.returns-clause-stream
returns-clause-stream c = c.new-input.ensures
