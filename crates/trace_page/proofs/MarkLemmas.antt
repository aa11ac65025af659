-- The parts of a mark, from what its action looks like and where it stands.
use Rattle.std.proofs.Common.{◌≡◌, ◌∙◌, ap, ℕ, ◌+◌, List, [], ◌∷◌, ◌++◌}
use Rattle.std.specs.Prelude.{OnOk, Result, Ok, Err, take}
use Rattle.da_lang.specs.declared.event.Action.{Action}
use Rattle.da_values.specs.declared.list.NoMemory.{NoMemory}
use Rattle.sched_text.specs.ActionLine.{bare_line}
use Rattle.trace_page.specs.declared.markup.Markup.{Markup}
use Rattle.trace_page.specs.declared.markup.Markup.TheVariants as m
use Rattle.trace_page.specs.declared.page.Page.{Page}
use Rattle.trace_page.specs.Layout.{column_in, x_of, y_of}
use Rattle.trace_page.specs.PageText.{dots, label_word, label_x, mark_parts}
use Rattle.trace_page.specs.Parts.{mark, number, parts_text, text}
use Rattle.trace_page.specs.Rows.{process_of}
use Rattle.trace_page.specs.Shapes.{label_of, shape_of, word_of}

abbrev made : (word : Markup) (column event : ℕ) (title : List ℕ) (x y : ℕ) (shape : Markup) (beside : ℕ) (side : Markup) (label : List ℕ) (ending : Markup) → List ℕ
made word column event title x y shape beside side label ending =
    parts_text (
    mark m.MarkOpen ∷ mark word ∷ mark m.InColumn ∷ number (column + 1) ∷ mark m.OfEvent ∷ number event ∷ mark m.Title ∷ text title ∷ mark m.ShapeAt ∷ number x
    ∷ mark m.Space ∷ number y ∷ mark shape ∷ mark m.Label ∷ number beside ∷ mark m.Y ∷ number (y + 4) ∷ mark side ∷ text label ∷ mark ending ∷ mark m.MarkEnd ∷ []
    )

module _ (page : Page) (event line : ℕ) (a : Action) where
  pub mark_put : {T : Type 0} (word : Markup) (column count : ℕ) (title : List ℕ) (x y : ℕ) (shape : Markup) (beside : ℕ) (side : Markup) (label : List ℕ) (ending : Markup) (old new : List ℕ) (r : Result T NoMemory)
      → word ≡ word_of a → column ≡ column_in page.columns (process_of a) → count ≡ event → title ≡ bare_line a → x ≡ x_of page (process_of a) → y ≡ y_of line → shape ≡ shape_of a
      → beside ≡ label_x page a → side ≡ label_word a → label ≡ take 22 (label_of a) → ending ≡ dots (label_of a)
      → OnOk r (new ≡ old ++ made word column count title x y shape beside side label ending) → OnOk r (new ≡ old ++ parts_text (mark_parts page event line a))
  mark_put word column count title x y shape beside side label ending old new (Err e) words columns counts titles across downwards shapes besides sides labels endings put = tt
  mark_put word column count title x y shape beside side label ending old new (Ok done) words columns counts titles across downwards shapes besides sides labels endings put =
      put
      ∙ ap (λ (t : List ℕ). old ++ t)
      (ap (λ (w : Markup). made w column count title x y shape beside side label ending) words
      ∙ ap (λ (n : ℕ). made (word_of a) n count title x y shape beside side label ending) columns
      ∙ ap (λ (n : ℕ). made (word_of a) (column_in page.columns (process_of a)) n title x y shape beside side label ending) counts
      ∙ ap (λ (t : List ℕ). made (word_of a) (column_in page.columns (process_of a)) event t x y shape beside side label ending) titles
      ∙ ap (λ (n : ℕ). made (word_of a) (column_in page.columns (process_of a)) event (bare_line a) n y shape beside side label ending) across
      ∙ ap (λ (n : ℕ). made (word_of a) (column_in page.columns (process_of a)) event (bare_line a) (x_of page (process_of a)) n shape beside side label ending) downwards
      ∙ ap (λ (w : Markup). made (word_of a) (column_in page.columns (process_of a)) event (bare_line a) (x_of page (process_of a)) (y_of line) w beside side label ending) shapes
      ∙ ap (λ (n : ℕ). made (word_of a) (column_in page.columns (process_of a)) event (bare_line a) (x_of page (process_of a)) (y_of line) (shape_of a) n side label ending) besides
      ∙ ap (λ (w : Markup). made (word_of a) (column_in page.columns (process_of a)) event (bare_line a) (x_of page (process_of a)) (y_of line) (shape_of a) (label_x page a) w label ending) sides
      ∙ ap (λ (t : List ℕ). made (word_of a) (column_in page.columns (process_of a)) event (bare_line a) (x_of page (process_of a)) (y_of line) (shape_of a) (label_x page a) (label_word a) t ending) labels
      ∙ ap (λ (w : Markup). made (word_of a) (column_in page.columns (process_of a)) event (bare_line a) (x_of page (process_of a)) (y_of line) (shape_of a) (label_x page a) (label_word a) (take 22 (label_of a)) w) endings)
