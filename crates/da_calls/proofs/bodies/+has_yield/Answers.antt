use Rattle.std.proofs.Common.{ap, sym, ◌∙◌}
use Rattle.da_lang.specs.Deeds.{deeds, deeds_of, deeds_of_branch}
use Rattle.da_calls.specs.CallBodies.{some_yield}
use Rattle.da_calls.proofs.CallBodies.{yields_step, yields_at, yields-branch}
use Rattle.da_calls.proofs.bodies.+has_yield.Goals as goal

pub has_yield-returns-then-has_yield_in : goal.has_yield-returns-then-has_yield_in
has_yield-returns-then-has_yield_in t c = sym (yields_at deeds_of c.args.stmts.now c.loop-stmt.stmt-index c.stmt-item.result c.loop-stmt-test.true c.stmt-item.is (sym c.if-has_yield_in.ensures))

pub has_yield-loop-stmt-preserved : goal.has_yield-loop-stmt-preserved
has_yield-loop-stmt-preserved t c = yields_step deeds_of c.args.stmts.now c.loop-stmt.stmt-index c.stmt-item.result c.loop-stmt-test.true c.stmt-item.is (sym c.if-has_yield_in.ensures) c.loop-stmt.invariant

pub has_yield_of-returns-then-has_yield : goal.has_yield_of-returns-then-has_yield
has_yield_of-returns-then-has_yield t c =
    sym (yields_at deeds_of_branch c.args.branches.now c.loop-branch.branch-index c.branch-item.result c.loop-branch-test.true c.branch-item.is
    (yields-branch c.branch-item.result ∙ ap (λ ss. some_yield (deeds ss)) (sym c.as_slice.ensures) ∙ sym c.if-has_yield.ensures))

pub has_yield_of-loop-branch-preserved : goal.has_yield_of-loop-branch-preserved
has_yield_of-loop-branch-preserved t c =
    yields_step deeds_of_branch c.args.branches.now c.loop-branch.branch-index c.branch-item.result c.loop-branch-test.true c.branch-item.is
    (yields-branch c.branch-item.result ∙ ap (λ ss. some_yield (deeds ss)) (sym c.as_slice.ensures) ∙ sym c.if-has_yield.ensures)
    c.loop-branch.invariant
