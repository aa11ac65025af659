use Rattle.std.proofs.Common.{◌∙◌}
use Rattle.lsp_server.proofs.json.written.Goals as goal

pub returns : goal.returns
returns c = λ none. c.in_ok-copy.ensures ∙ c.as_bytes.ensures.value ∙ c.in-Ok.ensures.text none
