use Rattle.std.proofs.Common.{[], ◌++◌, ◌∙◌, ap}
use Rattle.trace_page.specs.PageText.{page_text}
use Rattle.trace_page.proofs.DrawLemmas.{is_page}
use Rattle.trace_page.proofs.drawing.page_of.Goals as goal

pub returns : goal.returns
returns c =
    is_page c.args.text.now c.in_ok-actions.actions c.in_ok-page.page c.put_page.new.out c.in_ok-actions.ensures c.in_ok-page.ensures
    (c.in_ok-put_page.ensures ∙ ap (λ before. before ++ page_text c.in_ok-page.page []) c.new-out.ensures)
