use Rattle.std.proofs.Common.{ap, ◌∙◌}
use Rattle.serde_json.specs.Data.{Data}
use Rattle.serde_json.specs.Find.{get}
use Rattle.serde_json.specs.View.{view}
use Rattle.std.specs.Prelude.{codes}
use Rattle.lsp_server.specs.Heard.{heard_by, is_answer}
use Rattle.lsp_server.proofs.HeardLemmas.{heard_with}
use Rattle.lsp_server.proofs.JsonLemmas.{found_none, text_shown}
use Rattle.lsp_server.proofs.message.message_of.Goals as goal

pub returns-in-Some : goal.returns-in-Some
returns-in-Some c =
    let d : Data = view c.args.value.now in
    heard_with d _ c.method_of.result c.in-Some.method (c.with_method.ensures (is_answer d)) c.method_of.ensures c.in-Some.is

pub returns-in-None : goal.returns-in-None
returns-in-None c =
    let d : Data = view c.args.value.now in
    c.without_method.ensures (get (codes "id") d) ∙ ap (λ m. heard_by m (get (codes "id") d) (is_answer d)) (found_none text_shown c.method_of.result _ c.method_of.ensures c.in-None.is)
