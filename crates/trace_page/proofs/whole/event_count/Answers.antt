use Rattle.std.proofs.Common.{◌≡◌, ap, arith}
use Rattle.trace_page.specs.Layout.{first_number}
use Rattle.trace_page.proofs.whole.event_count.Goals as goal

pub returns-in-Trace : goal.returns-in-Trace
returns-in-Trace c = let one : first_number c.args.page.now.kind ≡ 1 = ap first_number c.in-Trace.is in omega (arith, one)

pub returns-in-Run : goal.returns-in-Run
returns-in-Run c = let none : first_number c.args.page.now.kind ≡ 0 = ap first_number c.in-Run.is in omega (arith, none)
