use Rattle.lsp_server.proofs.RepliedLemmas.{passes_then}
use Rattle.lsp_server.proofs.turns.pass.Goals as goal

pub returns : goal.returns
returns c = passes_then c.args.input.now c.pass.new.self c.pass-2.new.self c.args.extent c.in_ok-pass.ensures c.in_ok-pass-2.ensures
