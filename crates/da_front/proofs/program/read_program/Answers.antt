use Rattle.std.proofs.Common.{subst, sym}
use Rattle.std.proofs.lemmas.Result.{err_from_is_err_and}
use Rattle.da_front.specs.Verdict.{Accepts}
use Rattle.da_front.proofs.ProgramLemmas.{accepts_read, not_planned}
use Rattle.da_front.proofs.program.read_program.Goals as goal

pub returns-clause-read : goal.returns-clause-read
returns-clause-read c = subst (Accepts _) (sym c.in_ok-compile.ensures.program) (accepts_read _ _ c.in_ok-typed.ensures.ok c.in_ok-compile.ensures.few)

pub returns-in_err-compile-clause-refused : goal.returns-in_err-compile-clause-refused
returns-in_err-compile-clause-refused c =
    let p = err_from_is_err_and c.from_residual-in_err-compile.result c.from_residual-in_err-compile.ensures.1 in
    rw (p.1, p.2) (not_planned _ _ _ c.in_ok-typed.ensures.ok c.in_err-compile.ensures.many)
