-- What the code found a message to say, as the definition has it.
use Rattle.serde_json.specs.View.{view}
use Rattle.lsp_server.specs.declared.message.Message.{Message}
use Rattle.lsp_server.specs.declared.message.Message.TheVariants.{Asks, Notes, Answers, Invalid}
use Rattle.lsp_server.specs.Heard.{Heard, answers, asks, invalid, notes}

abbrev pub heard_of : Message → Heard
heard_of (Asks id method) = asks (view id.now) method.now
heard_of (Notes method) = notes method.now
heard_of Answers = answers
heard_of Invalid = invalid
