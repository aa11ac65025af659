use Rattle.std.proofs.Common.{◌++◌, ◌∙◌, ap, append-nil, sym}
use Rattle.trace_page.specs.Arrows.{arrow_parts}
use Rattle.trace_page.specs.Parts.{parts_text}
use Rattle.trace_page.specs.Sheets.{actions_at}
use Rattle.trace_page.proofs.ArrowLemmas.{parts_chosen}
use Rattle.trace_page.proofs.FormLemmas.{arrow_others}
use Rattle.trace_page.proofs.ways.put_arrow.Goals as goal

pub returns-in-Got : goal.returns-in-Got
returns-in-Got c =
    parts_chosen (arrow_parts c.args.sheet.now.page.now (actions_at c.args.sheet.now.spots) c.args.at.now.event c.args.at.now.line) _ c.args.at.now.action.now c.args.out.now c.put_got.new.out c.put_got.result (sym c.in-Got.is) c.put_got.ensures

pub returns-in-Lost : goal.returns-in-Lost
returns-in-Lost c =
    parts_chosen (arrow_parts c.args.sheet.now.page.now (actions_at c.args.sheet.now.spots) c.args.at.now.event c.args.at.now.line) _ c.args.at.now.action.now c.args.out.now c.put_lost.new.out c.put_lost.result (sym c.in-Lost.is) c.put_lost.ensures

pub returns-in-Sent : goal.returns-in-Sent
returns-in-Sent c =
    parts_chosen (arrow_parts c.args.sheet.now.page.now (actions_at c.args.sheet.now.spots) c.args.at.now.event c.args.at.now.line) _ c.args.at.now.action.now c.args.out.now c.put_sent.new.out c.put_sent.result (sym c.in-Sent.is) c.put_sent.ensures

pub returns-in_default : goal.returns-in_default
returns-in_default c =
    sym (append-nil c.args.out.now)
    ∙ ap (λ ps. c.args.out.now ++ parts_text ps) (arrow_others c.args.sheet.now.page.now c.args.at.now.event c.args.at.now.line (actions_at c.args.sheet.now.spots) c.args.at.now.action.now c.in_default.not-Got c.in_default.not-Lost c.in_default.not-Sent)
