use Rattle.std.proofs.Common.{◌++◌, ◌∙◌, ap}
use Rattle.std.proofs.lemmas.Result.{on_ok_weaker}
use Rattle.std.specs.List.{flat_map}
use Rattle.trace_page.specs.PageText.{life_text, past_text}
use Rattle.trace_page.specs.Sheets.{actions_at}
use Rattle.trace_page.proofs.picture.put_columns.Goals as goal

pub returns : goal.returns
returns c =
    let page = c.args.sheet.now.page.now in
    let lives = flat_map (life_text page) page.columns in
    let pasts = flat_map (past_text page) (actions_at c.args.sheet.now.spots) in
    on_ok_weaker c.put_pasts.result (λ put. put ∙ ap (λ before. before ++ pasts) (c.in_ok-put_lives.ensures ∙ ap (λ before. before ++ lives) c.in_ok-put_markup.ensures)) c.put_pasts.ensures
