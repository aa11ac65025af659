use Rattle.trace_page.proofs.TracingLemmas.{page_made}
use Rattle.trace_page.proofs.tracing.page_of_trace.Goals as goal

pub returns : goal.returns
returns c = page_made c.new-remarks.result c.in_ok-columns.columns c.in_ok-rows.rows c.as_slice.result.now c.args.actions c.new-remarks.ensures c.as_slice.ensures c.in_ok-columns.ensures c.in_ok-rows.ensures
