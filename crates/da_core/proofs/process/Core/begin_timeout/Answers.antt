use Rattle.std.proofs.Common.{rules, ◌≡◌, ◌+◌, None, Some, sym}
use Rattle.da_core.proofs.Entering.{timeout_found}
use Rattle.da_core.proofs.process.Core.begin_timeout.Goals as goal

pub returns-in_err-begin : goal.returns-in_err-begin
returns-in_err-begin c = λ w s.
    let next : c.in_ok-k.k ≡ c.in-Await.count + 1 = search rules in
    rw c.from_residual-in_err-begin.ensures
    (timeout_found c.args.self.now w s c.in_ok-code.code.now (sym c.in_ok-code.ensures) c.in-Await.count c.in-Await.is c.in_ok-k.k next None c.in_err-begin.ensures)

pub returns : goal.returns
returns c = λ w s.
    let next : c.in_ok-k.k ≡ c.in-Await.count + 1 = search rules in
    timeout_found c.args.self.now w s c.in_ok-code.code.now (sym c.in_ok-code.ensures) c.in-Await.count c.in-Await.is c.in_ok-k.k next (Some c.in_ok-begin.begin) c.in_ok-begin.ensures
