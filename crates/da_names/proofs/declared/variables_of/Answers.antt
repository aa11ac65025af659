use Rattle.std.proofs.Common.{◌∙◌, ap, filter_map}
use Rattle.std.proofs.lemmas.List.{take_all}
use Rattle.da_names.specs.ClassRules.{variable_name}
use Rattle.da_bodies.specs.Repeats.{declared_of}
use Rattle.da_names.proofs.ClassSteps.{kept_none, kept_some, variables_named}
use Rattle.da_names.proofs.declared.variables_of.Goals as goal
use Rattle.da_names.proofs.declared.variables_of.Goals.{in-Some+in_ok-push, in_default}

pub loop-member-preserved : goal.loop-member-preserved
loop-member-preserved c =
    let l = c.loop-member in
    elim c.match-variable_in.branch [
      | in-Some+in_ok-push w ↦ kept_some declared_of variable_name l.list _ _ l.member-index c.member-item.result w.in-Some.variable c.loop-member-test.true c.member-item.is l.invariant w.in-Some.ensures (w.list-is ∙ w.in_ok-push.ensures.ok)
      | in_default w ↦ kept_none declared_of variable_name l.list _ _ l.member-index c.member-item.result c.loop-member-test.true c.member-item.is l.invariant w.in_default.ensures w.list-is
    ]

pub returns : goal.returns
returns c =
    let l = c.loop-member in
    l.invariant ∙ ap (filter_map variable_name) (take_all l.member-index c.as_slice-member-items.result.now c.loop-member-test.false ∙ c.as_slice-member-items.ensures) ∙ variables_named c.args.class.now.members
