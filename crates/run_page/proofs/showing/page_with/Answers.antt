use Rattle.run_page.proofs.ShownLemmas.{written_with}
use Rattle.run_page.proofs.showing.page_with.Goals as goal

pub returns-clause-page : goal.returns-clause-page
returns-clause-page c = written_with c.args.program.now c.args.remarks c.in_ok-columns.columns c.args.ran.rows c.args.text.now c.new-out.result c.put_page.new.out c.new-out.ensures c.in_ok-columns.ensures c.in_ok-put_page.ensures
