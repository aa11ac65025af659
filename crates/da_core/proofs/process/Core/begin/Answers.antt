use Rattle.std.proofs.Common.{None, Some, sym}
use Rattle.da_core.proofs.Entering.{begin_found}
use Rattle.da_core.proofs.process.Core.begin.Goals as goal

pub returns-in_err-begin : goal.returns-in_err-begin
returns-in_err-begin c = λ w s.
    rw c.from_residual-in_err-begin.ensures (begin_found c.args.self.now w s c.in_ok-code.code.now (sym c.in_ok-code.ensures) c.args.k None c.in_err-begin.ensures)

pub returns : goal.returns
returns c = λ w s. begin_found c.args.self.now w s c.in_ok-code.code.now (sym c.in_ok-code.ensures) c.args.k (Some c.in_ok-begin.begin) c.in_ok-begin.ensures
