use Rattle.trace_page.specs.PageText.{life_text}
use Rattle.trace_page.proofs.ChainLemmas.{one_more}
use Rattle.trace_page.proofs.picture.put_lives.Goals as goal

pub loop-column-preserved : goal.loop-column-preserved
loop-column-preserved c =
    one_more (life_text c.args.sheet.now.page.now) c.as_slice-column-items.result.now c.loop-column.column-index c.column-item.result c.args.out.now c.loop-column.out c.put_life.new.out c.loop-column-test.true c.column-item.is c.loop-column.invariant
    c.in_ok-put_life.ensures
