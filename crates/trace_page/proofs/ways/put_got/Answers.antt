use Rattle.std.specs.Prelude.{None, Some}
use Rattle.trace_page.specs.Arrows.{got_parts, sent_at}
use Rattle.trace_page.specs.Sheets.{actions_at}
use Rattle.trace_page.proofs.ArrowLemmas.{parts_chosen}
use Rattle.trace_page.proofs.ways.put_got.Goals as goal

pub returns-in-Some : goal.returns-in-Some
returns-in-Some c =
    parts_chosen (got_parts c.args.sheet.now.page.now c.args.p c.args.q c.args.at.now.event c.args.at.now.line) (Some c.in-Some.place) (sent_at (actions_at c.args.sheet.now.spots) c.args.p c.args.t)
    c.args.out.now c.put_came.new.out c.put_came.result c.in-Some.ensures c.put_came.ensures

pub returns-in-None : goal.returns-in-None
returns-in-None c =
    parts_chosen (got_parts c.args.sheet.now.page.now c.args.p c.args.q c.args.at.now.event c.args.at.now.line) None (sent_at (actions_at c.args.sheet.now.spots) c.args.p c.args.t)
    c.args.out.now c.put_unsent.new.out c.put_unsent.result c.in-None.ensures c.put_unsent.ensures
