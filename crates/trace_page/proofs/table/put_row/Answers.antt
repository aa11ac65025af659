use Rattle.std.proofs.Common.{[], ◌∷◌, ◌++◌, ◌∙◌, ap}
use Rattle.std.specs.List.{flat_map}
use Rattle.trace_page.specs.PageText.{action_item, changes_text, row_word}
use Rattle.trace_page.specs.Parts.{frame, number, parts_text, text}
use Rattle.trace_page.specs.declared.markup.Frame.TheVariants.{CellEnd, CellNext, RowEnd, RowNumber, RowWords}
use Rattle.trace_page.proofs.ChainLemmas.{then, then_end}
use Rattle.trace_page.proofs.table.put_row.Goals as goal

pub returns : goal.returns
returns c =
    let at = c.args.at.now in
    let row = at.row.now in
    let head = parts_text (frame (row_word row.is_marked) ∷ number at.event ∷ frame RowNumber ∷ number at.event ∷ frame RowWords ∷ text row.words ∷ frame CellNext ∷ []) in
    let actions = flat_map action_item row.actions in
    let cell = parts_text (frame CellEnd ∷ []) in
    let changes = changes_text c.args.kind row.changes in
    let over = parts_text (frame RowEnd ∷ []) in
    let old = c.args.out.now in
    let o1 = c.put_row_head.new.out in
    let o2 = c.put_actions.new.out in
    let o3 = c.put_frame.new.out in
    let o4 = c.put_changes.new.out in
    then_end old o4 c.put_frame-2.new.out (head ++ actions ++ cell ++ changes) over c.put_frame-2.result
    (then old o3 o4 (head ++ actions ++ cell) changes
    (then old o2 o3 (head ++ actions) cell (then old o1 o2 head actions c.in_ok-put_row_head.ensures (c.in_ok-put_actions.ensures ∙ ap (λ as'. o1 ++ flat_map action_item as') c.as_slice.ensures)) c.in_ok-put_frame.ensures)
    (c.in_ok-put_changes.ensures ∙ ap (λ cs. o3 ++ changes_text c.args.kind cs) c.as_slice-2.ensures)) c.put_frame-2.ensures
