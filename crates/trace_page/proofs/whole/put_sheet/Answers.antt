use Rattle.std.proofs.Common.{[], ◌∷◌, ◌++◌, ◌∙◌, ap}
use Rattle.std.specs.List.{flat_map}
use Rattle.trace_page.specs.PageText.{counts_text, name_text, picture_text, program_text, remark_text, row_text, table_word}
use Rattle.trace_page.specs.Parts.{frame, parts_text}
use Rattle.trace_page.specs.Sheets.{actions_at, rows_at}
use Rattle.trace_page.specs.declared.markup.Frame.TheVariants.{Foot, Head}
use Rattle.trace_page.proofs.ChainLemmas.{sheet_put}
use Rattle.trace_page.proofs.whole.put_sheet.Goals as goal

pub returns : goal.returns
returns c =
    let sheet = c.args.sheet.now in
    let page = sheet.page.now in
    let rows = flat_map (row_text page.kind) (rows_at sheet.rows) in
    sheet_put (parts_text (frame Head ∷ [])) (flat_map remark_text page.remarks) (counts_text page (actions_at sheet.spots)) (flat_map (name_text page) page.columns)
    (picture_text page (rows_at sheet.rows) (actions_at sheet.spots)) (program_text page.kind c.args.program.now) (parts_text (frame (table_word page.kind) ∷ [])) rows (parts_text (frame Foot ∷ []))
    c.args.out.now c.put_head.new.out c.put_picture.new.out c.put_program.new.out c.put_frame.new.out c.put_rows.new.out c.put_frame-2.new.out c.put_frame-2.result
    c.in_ok-put_head.ensures c.in_ok-put_picture.ensures c.in_ok-put_program.ensures
    (c.in_ok-put_frame.ensures ∙ ap (λ word. c.put_program.new.out ++ parts_text (frame word ∷ [])) c.table_word.ensures)
    (c.in_ok-put_rows.ensures ∙ ap (λ rs. c.put_frame.new.out ++ flat_map (row_text page.kind) (rows_at rs)) c.as_slice.ensures) c.put_frame-2.ensures
