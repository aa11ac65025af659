use Rattle.std.proofs.Common.{ap, sym, ◌∙◌}
use Rattle.delta_rules.specs.Resting.{inputs_rest}
use Rattle.delta_rules.proofs.resting.inputs_rest.Goals as goal

pub returns-in-Root : goal.returns-in-Root
returns-in-Root c = sym (ap (inputs_rest c.args.passing.now c.args.changes.now c.args.rule.now) c.in-Root.is)

pub returns-in-Gen : goal.returns-in-Gen
returns-in-Gen c = c.gen_rests.ensures ∙ sym (ap (inputs_rest c.args.passing.now c.args.changes.now c.args.rule.now) c.in-Gen.is)

pub returns-in-Filter : goal.returns-in-Filter
returns-in-Filter c = c.rests.ensures ∙ sym (ap (inputs_rest c.args.passing.now c.args.changes.now c.args.rule.now) c.in-Filter.is)

pub returns-in-Semi : goal.returns-in-Semi
returns-in-Semi c = c.both_rest.ensures ∙ sym (ap (inputs_rest c.args.passing.now c.args.changes.now c.args.rule.now) c.in-Semi.is)

pub returns-in-Anti : goal.returns-in-Anti
returns-in-Anti c = c.both_rest-in-Anti.ensures ∙ sym (ap (inputs_rest c.args.passing.now c.args.changes.now c.args.rule.now) c.in-Anti.is)

pub returns-in-Union : goal.returns-in-Union
returns-in-Union c = c.both_rest-in-Union.ensures ∙ sym (ap (inputs_rest c.args.passing.now c.args.changes.now c.args.rule.now) c.in-Union.is)

pub returns-in-AggBind : goal.returns-in-AggBind
returns-in-AggBind c = c.both_rest-in-AggBind.ensures ∙ sym (ap (inputs_rest c.args.passing.now c.args.changes.now c.args.rule.now) c.in-AggBind.is)
