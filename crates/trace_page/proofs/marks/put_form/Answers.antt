use Rattle.trace_page.specs.PageText.{mark_parts, parts_at, stop_parts}
use Rattle.trace_page.proofs.FormLemmas.{mark_others, same_parts, stop_is}
use Rattle.trace_page.proofs.marks.put_form.Goals as goal

pub returns-in-Stop : goal.returns-in-Stop
returns-in-Stop c =
    let page = c.args.sheet.now.page.now in
    let at = c.args.at.now in
    same_parts (stop_parts page at.event at.line at.action.now) (parts_at page at.event at.line at.action.now) c.args.out.now c.put_stop.new.out c.put_stop.result (stop_is page at.event at.line at.action.now _ c.in-Stop.is) c.put_stop.ensures

pub returns-in_default : goal.returns-in_default
returns-in_default c =
    let page = c.args.sheet.now.page.now in
    let at = c.args.at.now in
    same_parts (mark_parts page at.event at.line at.action.now) (parts_at page at.event at.line at.action.now) c.args.out.now c.put_shape.new.out c.put_shape.result (mark_others page at.event at.line at.action.now c.in_default.not-Stop) c.put_shape.ensures
