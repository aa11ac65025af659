use Rattle.std.proofs.Common.{◌++◌, ◌∙◌, ap}
use Rattle.std.proofs.lemmas.Result.{on_ok_weaker}
use Rattle.std.specs.List.{flat_map}
use Rattle.trace_page.specs.PageText.{counts_text, name_text, remark_text}
use Rattle.trace_page.specs.Sheets.{actions_at}
use Rattle.trace_page.proofs.whole.put_head.Goals as goal

pub returns : goal.returns
returns c =
    let page = c.args.sheet.now.page.now in
    let counts = counts_text page (actions_at c.args.sheet.now.spots) in
    let names = flat_map (name_text page) page.columns in
    on_ok_weaker c.put_names.result
    (λ put.
    put
    ∙ ap (λ before. before ++ names)
    (c.in_ok-put_counts.ensures
    ∙ ap (λ before. before ++ counts)
    (c.in_ok-put_remarks.ensures ∙ ap (λ rs. c.put_frame.new.out ++ flat_map remark_text rs) c.as_slice.ensures ∙ ap (λ before. before ++ flat_map remark_text page.remarks) c.in_ok-put_frame.ensures))) c.put_names.ensures
