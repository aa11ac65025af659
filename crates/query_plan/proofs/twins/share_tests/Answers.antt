use Rattle.std.proofs.Common.{ap}
use Rattle.query_plan.specs.Nodes.{reads}
use Rattle.query_plan.proofs.EntryLaws.{told_one, told_two}
use Rattle.query_plan.proofs.twins.share_tests.Goals as goal

pub returns-in-Gen : goal.returns-in-Gen
returns-in-Gen c = λ told. told_one c.args.entries.now c.args.tests.now c.args.node.now _ (ap reads c.in-Gen.is) (c.has_tests.ensures told)

pub returns-in-Filter : goal.returns-in-Filter
returns-in-Filter c = λ told. told_one c.args.entries.now c.args.tests.now c.args.node.now _ (ap reads c.in-Filter.is) (c.has_tests-in-Filter.ensures told)

pub returns-in-Semi : goal.returns-in-Semi
returns-in-Semi c = λ told. told_two c.args.entries.now c.args.tests.now c.args.node.now _ _ (ap reads c.in-Semi.is) (c.both_have.ensures.first told) (c.both_have.ensures.second told)

pub returns-in-Anti : goal.returns-in-Anti
returns-in-Anti c = λ told. told_two c.args.entries.now c.args.tests.now c.args.node.now _ _ (ap reads c.in-Anti.is) (c.both_have-in-Anti.ensures.first told) (c.both_have-in-Anti.ensures.second told)

pub returns-in-Union : goal.returns-in-Union
returns-in-Union c = λ told. told_two c.args.entries.now c.args.tests.now c.args.node.now _ _ (ap reads c.in-Union.is) (c.both_have-in-Union.ensures.first told) (c.both_have-in-Union.ensures.second told)

pub returns-in-AggBind : goal.returns-in-AggBind
returns-in-AggBind c = λ told. told_two c.args.entries.now c.args.tests.now c.args.node.now _ _ (ap reads c.in-AggBind.is) (c.both_have-in-AggBind.ensures.first told) (c.both_have-in-AggBind.ensures.second told)
