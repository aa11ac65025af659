use Rattle.std.proofs.Common.{arith}
use Rattle.trace_page.proofs.LineLemmas.{line_put, lines_put}
use Rattle.trace_page.proofs.table.put_each.Goals as goal

pub lines-preserved : goal.lines-preserved
lines-preserved c = line_put c.lines.out c.put_line.new.out c.split_line.result.0.now c.lines.rest.now c.split_line.result.1.now _ c.split_line.ensures.lines c.in_ok-put_line.ensures c.lines.invariant

pub returns : goal.returns
returns c = lines_put c.lines.out c.lines.rest.now _ (omega (arith, c.lines-test.false)) c.lines.invariant
