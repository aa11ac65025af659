use Rattle.trace_page.proofs.tracing.add_one.Goals as goal

pub returns-in-Ok : goal.returns-in-Ok
returns-in-Ok c = c.in-Ok.ensures.keys
