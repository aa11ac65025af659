use Rattle.std.proofs.Common.{◌++◌, ℕ, List, Option, ap, sym, ◌∙◌}
use Rattle.da_lang.specs.Deeds.{deeds, deeds_of, deeds_of_branch}
use Rattle.da_calls.specs.CallBodies.{calls_by}
use Rattle.da_calls.specs.CallNames.{number_in}
use Rattle.da_calls.proofs.CallBodies.{calls_step, calls-branch}
use Rattle.da_calls.proofs.bodies.+put_calls.Goals as goal

pub put_calls-loop-stmt-preserved : goal.put_calls-loop-stmt-preserved
put_calls-loop-stmt-preserved t c =
    calls_step (number_in c.args.numbers.now) deeds_of c.args.stmts.now c.loop-stmt.stmt-index c.stmt-item.result _ _ _ c.loop-stmt-test.true c.stmt-item.is c.in_ok-put_calls_in.ensures c.loop-stmt.invariant

pub put_calls_of-loop-branch-preserved : goal.put_calls_of-loop-branch-preserved
put_calls_of-loop-branch-preserved t c =
    let number : List ℕ → Option ℕ = number_in c.args.numbers.now in
    calls_step number deeds_of_branch c.args.branches.now c.loop-branch.branch-index c.branch-item.result _ _ _ c.loop-branch-test.true c.branch-item.is
    (c.in_ok-put_calls.ensures ∙ ap (λ ss. c.loop-branch.out ++ calls_by number (deeds ss)) c.as_slice.ensures ∙ ap (λ cs. c.loop-branch.out ++ cs) (sym (calls-branch number c.branch-item.result)))
    c.loop-branch.invariant
