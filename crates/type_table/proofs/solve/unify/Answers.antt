use Rattle.type_table.proofs.SolveLaws.{taken_within, rest_within, solving_goes, solving_clashes}
use Rattle.type_table.proofs.solve.unify.Goals as goal

pub equate-requires-clause-first : goal.equate-requires-clause-first
equate-requires-clause-first c = (taken_within c.args.forms.now c.loop-one.forms c.args.first c.args.second _ _ c.loop-one.todo c.pop.new.self c.in-Some.ensures c.loop-one.invariant).0

pub equate-requires-clause-second : goal.equate-requires-clause-second
equate-requires-clause-second c = (taken_within c.args.forms.now c.loop-one.forms c.args.first c.args.second _ _ c.loop-one.todo c.pop.new.self c.in-Some.ensures c.loop-one.invariant).1

pub equate-requires-clause-todo : goal.equate-requires-clause-todo
equate-requires-clause-todo c = rest_within c.args.forms.now c.loop-one.forms c.args.first c.args.second _ _ c.loop-one.todo c.pop.new.self c.in-Some.ensures c.loop-one.invariant

pub returns-then-not-branch-clause-clash : goal.returns-then-not-branch-clause-clash
returns-then-not-branch-clause-clash c =
    λ can. solving_clashes c.args.forms.now c.loop-one.forms c.args.first c.args.second c.in-Some.one c.in-Some.other c.loop-one.todo c.pop.new.self c.in-Some.ensures c.loop-one.invariant (c.in_ok-equate.ensures.clash c.if-not-branch.true)

pub loop-one-preserved : goal.loop-one-preserved
loop-one-preserved c =
    solving_goes c.args.forms.now c.loop-one.forms c.args.first c.args.second c.in-Some.one c.in-Some.other c.loop-one.todo c.pop.new.self c.in-Some.ensures c.loop-one.invariant
    c.equate.new.forms c.equate.new.todo c.in_ok-equate.ensures.table c.in_ok-equate.ensures.size (c.in_ok-equate.ensures.solved c.if-not-branch.false)
