use Rattle.std.proofs.Common.{◌++◌, ◌∙◌, ap, append-nil, sym}
use Rattle.std.specs.Prelude.{Some}
use Rattle.trace_page.specs.Arrows.{lost_parts, sent_at}
use Rattle.trace_page.specs.Parts.{parts_text}
use Rattle.trace_page.specs.Sheets.{actions_at}
use Rattle.trace_page.proofs.ArrowLemmas.{parts_chosen}
use Rattle.trace_page.proofs.ways.put_lost.Goals as goal

pub returns-in-Some : goal.returns-in-Some
returns-in-Some c =
    parts_chosen (lost_parts c.args.sheet.now.page.now c.args.p c.args.q c.args.at.now.event c.args.at.now.line) (Some c.in-Some.place) (sent_at (actions_at c.args.sheet.now.spots) c.args.p c.args.t)
    c.args.out.now c.put_broken.new.out c.put_broken.result c.in-Some.ensures c.put_broken.ensures

pub returns-in-None : goal.returns-in-None
returns-in-None c =
    sym (append-nil c.args.out.now)
    ∙ ap (λ o. c.args.out.now ++ parts_text (lost_parts c.args.sheet.now.page.now c.args.p c.args.q c.args.at.now.event c.args.at.now.line o)) c.in-None.ensures
