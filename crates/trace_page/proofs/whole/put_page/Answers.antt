use Rattle.trace_page.proofs.PageLemmas.{page_written}
use Rattle.trace_page.proofs.whole.put_page.Goals as goal

pub returns : goal.returns
returns c = page_written c.in_ok-sheet.sheet c.args.page.now c.args.program.now c.args.out.now c.put_sheet.new.out c.put_sheet.result c.in_ok-sheet.ensures.sheet c.in_ok-sheet.ensures.page c.put_sheet.ensures
