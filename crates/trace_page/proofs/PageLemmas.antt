-- The text of a sheet is that of its page.
use Rattle.std.proofs.Common.{◌≡◌, ◌∙◌, ap, ℕ, List, ◌++◌}
use Rattle.std.specs.Prelude.{Result, Ok, Err, OnOk}
use Rattle.da_values.specs.declared.list.NoMemory.{NoMemory}
use Rattle.trace_page.specs.declared.page.Page.{Page}
use Rattle.trace_page.specs.declared.sheet.Sheet.{Sheet}
use Rattle.trace_page.specs.PageText.{page_text, rows_in, text_of_rows}
use Rattle.trace_page.specs.Sheets.{IsSheet, actions_at, sheet_text}

pub sheet_is_page : (sheet : Sheet) (program : List ℕ) → IsSheet sheet → sheet_text sheet program ≡ page_text sheet.page.now program
sheet_is_page sheet program is =
    ap (λ rows. text_of_rows sheet.page.now program rows (actions_at sheet.spots)) is.rows
    ∙ ap (λ spots. text_of_rows sheet.page.now program (rows_in sheet.page.now) spots) is.spots

pub page_written : {T : Type 0} (sheet : Sheet) (page : Page) (program old new : List ℕ) (r : Result T NoMemory) → IsSheet sheet → sheet.page.now ≡ page → OnOk r (new ≡ old ++ sheet_text sheet program) → OnOk r (new ≡ old ++ page_text page program)
page_written sheet page program old new (Ok x) is same put =
    put ∙ ap (λ x. old ++ x) (sheet_is_page sheet program is) ∙ ap (λ p. old ++ page_text p program) same
page_written sheet page program old new (Err e) is same put = tt
