use Rattle.std.proofs.Common.{arith}
use Rattle.type_fitting.proofs.LoopLaws.{unified_begins, first_inside, second_inside, next_goes, next_clashes, unified_ends}
use Rattle.type_fitting.proofs.equations.unify_all.Goals as goal

pub loop-equation-init : goal.loop-equation-init
loop-equation-init c = unified_begins c.args.forms.now c.args.equations.now c.requires.table c.requires.pairs

pub unify-requires-clause-first : goal.unify-requires-clause-first
unify-requires-clause-first c = first_inside c.args.forms.now c.loop-equation.forms c.args.equations.now c.loop-equation.equation-index _ c.loop-equation-test.true c.loop-equation.invariant

pub unify-requires-clause-second : goal.unify-requires-clause-second
unify-requires-clause-second c = second_inside c.args.forms.now c.loop-equation.forms c.args.equations.now c.loop-equation.equation-index _ c.loop-equation-test.true c.loop-equation.invariant

pub returns-then-not-branch-clause-clash : goal.returns-then-not-branch-clause-clash
returns-then-not-branch-clause-clash c = λ can. next_clashes c.args.forms.now c.loop-equation.forms c.args.equations.now c.loop-equation.equation-index _ c.loop-equation-test.true c.loop-equation.invariant (c.in_ok-unify.ensures.clash c.if-not-branch.true)

pub loop-equation-preserved : goal.loop-equation-preserved
loop-equation-preserved c = next_goes c.args.forms.now c.loop-equation.forms c.args.equations.now c.loop-equation.equation-index _ c.loop-equation-test.true c.loop-equation.invariant c.unify.new.forms c.in_ok-unify.ensures.table c.in_ok-unify.ensures.size (c.in_ok-unify.ensures.solved c.if-not-branch.false)

pub returns-clause-solved : goal.returns-clause-solved
returns-clause-solved c = λ can. unified_ends c.args.forms.now c.loop-equation.forms c.args.equations.now c.loop-equation.equation-index (omega (arith, c.loop-equation-test.false)) c.loop-equation.invariant
