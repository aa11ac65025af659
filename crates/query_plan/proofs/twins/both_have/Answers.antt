use Rattle.query_plan.proofs.twins.both_have.Goals as goal

pub returns-clause-first : goal.returns-clause-first
returns-clause-first c = λ told. c.has_tests.ensures c.if-not-has_tests.false

pub returns-clause-second : goal.returns-clause-second
returns-clause-second c = λ told. c.has_tests-2.ensures told
