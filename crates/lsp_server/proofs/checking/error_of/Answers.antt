use Rattle.std.proofs.Common.{ap, ◌∙◌, List, [], ◌∷◌, ◌++◌}
use Rattle.serde_json.specs.declared.value.Value.{Value}
use Rattle.lsp_server.proofs.NoticeLemmas.{one_refused}
use Rattle.lsp_server.proofs.checking.error_of.Goals as goal

pub returns : goal.returns
returns c = λ refuses.
    one_refused c.args.text.now c.args.kind c.args.line c.in_ok-item.item c.put_item.new.values.items
    (c.in_ok-put_item.ensures ∙ ap (λ (vs : List Value). vs ++ c.in_ok-item.item ∷ []) c.new-list.ensures.items) c.in_ok-item.ensures refuses
