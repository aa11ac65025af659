use Rattle.std.proofs.Common.{◌+◌, ◌-◌, ◌∙◌, ap}
use Rattle.std.specs.Prelude.{if◌then◌else◌, take}
use Rattle.trace_page.specs.Layout.{column_in, x_of}
use Rattle.trace_page.specs.PageText.{dots}
use Rattle.trace_page.specs.Shapes.{is_left}
use Rattle.trace_page.specs.declared.markup.Markup.TheVariants.{LabelLeft, LabelOpen}
use Rattle.trace_page.proofs.MarkLemmas.{mark_put}
use Rattle.trace_page.proofs.marks.put_shape.Goals as goal

pub returns : goal.returns
returns c =
    let page = c.args.sheet.now.page.now in
    let at = c.args.at.now in
    let a = at.action.now in
    let x = c.x_of-x.result in
    let across = c.x_of-x.ensures.value ∙ ap (x_of page) c.process_of-process.ensures in
    mark_put page at.event at.line a c.word_of.result c.column_of.result c.from.result c.args.line.now x c.y_of-y.result c.shape_of.result c.label_x.result c.label_word.result c.front.result.now c.dots.result c.args.out.now c.put_pieces.new.out
    c.put_pieces.result c.word_of.ensures (c.column_of.ensures.value ∙ ap (column_in page.columns) c.process_of-process.ensures) c.from.ensures c.requires.line across c.y_of-y.ensures.value c.shape_of.ensures
    (c.label_x.ensures ∙ ap (λ left. if left then x - 10 else x + 10) c.is_left-on_left.ensures ∙ ap (λ n. if is_left a then n - 10 else n + 10) across)
    (c.label_word.ensures ∙ ap (λ left. if left then LabelLeft else LabelOpen) c.is_left-on_left.ensures) (c.front.ensures ∙ ap (take 22) c.requires.label) (c.dots.ensures ∙ ap dots c.requires.label) c.put_pieces.ensures
