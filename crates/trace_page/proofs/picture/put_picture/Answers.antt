use Rattle.std.proofs.Common.{[], ◌∷◌}
use Rattle.std.specs.List.{flat_map}
use Rattle.trace_page.specs.Arrows.{arrow_text}
use Rattle.trace_page.specs.PageText.{band_text, diagram_text, life_text, mark_text, past_text}
use Rattle.trace_page.specs.Parts.{mark, parts_text}
use Rattle.trace_page.specs.Sheets.{actions_at, rows_at}
use Rattle.trace_page.specs.declared.markup.Markup.TheVariants.{Arrows, Lives, Marks}
use Rattle.trace_page.proofs.ChainLemmas.{picture_put}
use Rattle.trace_page.proofs.picture.put_picture.Goals as goal

pub returns : goal.returns
returns c =
    let sheet = c.args.sheet.now in
    let page = sheet.page.now in
    let spots = actions_at sheet.spots in
    picture_put (diagram_text page) (flat_map (band_text page) (rows_at sheet.rows)) (parts_text (mark Lives ∷ [])) (flat_map (life_text page) page.columns) (flat_map (past_text page) spots)
    (parts_text (mark Arrows ∷ [])) (flat_map (arrow_text page spots) spots) (parts_text (mark Marks ∷ [])) (flat_map (mark_text page) spots)
    c.args.out.now c.put_opening.new.out c.put_bands.new.out c.put_columns.new.out c.put_arrows.new.out c.put_marks.new.out c.put_marks.result
    c.in_ok-put_opening.ensures c.in_ok-put_bands.ensures c.in_ok-put_columns.ensures c.in_ok-put_arrows.ensures c.put_marks.ensures
