use Rattle.std.proofs.Common.{ap, sym, ◌∙◌, ◌-◌, List, length, slice_get, option_map}
use Rattle.serde_json.specs.View.{view}
use Rattle.serde_json.specs.declared.value.Value.{Value}
use Rattle.serde_json.proofs.Views.{view_of_ref}
use Rattle.lsp_server.proofs.NoticeLemmas.{last_seen}
use Rattle.lsp_server.proofs.noted.last_of.Goals as goal

pub returns : goal.returns
returns c =
    view_of_ref c.last.result
    ∙ ap (option_map view) (c.last.ensures.value ∙ ap (λ (xs : List Value). slice_get xs (length xs - 1)) c.as_slice.ensures.value)
    ∙ sym (last_seen c.args.list.now.items)
