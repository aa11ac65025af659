use Rattle.std.proofs.Common.{◌++◌, ◌∙◌, ap, append-nil, sym}
use Rattle.trace_page.specs.PageText.{past_of}
use Rattle.trace_page.specs.Parts.{parts_text}
use Rattle.trace_page.proofs.ArrowLemmas.{parts_chosen}
use Rattle.trace_page.proofs.FormLemmas.{past_others}
use Rattle.trace_page.proofs.marks.put_past.Goals as goal

pub returns-in-End : goal.returns-in-End
returns-in-End c = parts_chosen (past_of c.args.sheet.now.page.now c.args.at.now.line) _ c.args.at.now.action.now c.args.out.now c.put_faint.new.out c.put_faint.result (sym c.in-End.is) c.put_faint.ensures

pub returns-in_default : goal.returns-in_default
returns-in_default c =
    sym (append-nil c.args.out.now)
    ∙ ap (λ ps. c.args.out.now ++ parts_text ps) (past_others c.args.sheet.now.page.now c.args.at.now.event c.args.at.now.line c.args.at.now.action.now c.in_default.not-End c.in_default.not-Fault)

pub returns-in-Fault : goal.returns-in-Fault
returns-in-Fault c = parts_chosen (past_of c.args.sheet.now.page.now c.args.at.now.line) _ c.args.at.now.action.now c.args.out.now c.put_faint-in-Fault.new.out c.put_faint-in-Fault.result (sym c.in-Fault.is) c.put_faint-in-Fault.ensures
