use Rattle.std.proofs.Common.{rules}
use Rattle.serde_json.specs.declared.value.Value.{the_lemmas}
use Rattle.lsp_server.proofs.json.null_value.Goals as goal

pub returns : goal.returns
returns c = search (rules, the_lemmas)
