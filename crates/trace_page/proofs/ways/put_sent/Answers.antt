use Rattle.std.proofs.Common.{◌++◌, ◌∙◌, ap, append-nil, sym}
use Rattle.std.specs.Prelude.{false}
use Rattle.trace_page.specs.Arrows.{has_end, sent_parts}
use Rattle.trace_page.specs.Parts.{parts_text}
use Rattle.trace_page.specs.Sheets.{actions_at}
use Rattle.trace_page.proofs.ArrowLemmas.{parts_chosen}
use Rattle.trace_page.proofs.ways.put_sent.Goals as goal

pub returns-then-is_ended : goal.returns-then-is_ended
returns-then-is_ended c =
    sym (append-nil c.args.out.now)
    ∙ ap (λ ends. c.args.out.now ++ parts_text (sent_parts c.args.sheet.now.page.now c.args.p c.args.q c.args.at.now.event c.args.at.now.line ends)) (sym c.if-is_ended.true ∙ c.is_ended.ensures)

pub returns : goal.returns
returns c =
    parts_chosen (sent_parts c.args.sheet.now.page.now c.args.p c.args.q c.args.at.now.event c.args.at.now.line) false (has_end (actions_at c.args.sheet.now.spots) c.args.p c.args.t)
    c.args.out.now c.put_stub.new.out c.put_stub.result (sym c.if-is_ended.false ∙ c.is_ended.ensures) c.put_stub.ensures
