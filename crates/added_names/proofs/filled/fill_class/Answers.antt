use Rattle.std.proofs.Common.{◌∙◌}
use Rattle.added_names.specs.Filled.{left_of}
use Rattle.added_names.proofs.FillLaws.{class_by, class_left_by}
use Rattle.added_names.proofs.filled.fill_class.Goals as goal

pub returns-clause-filled : goal.returns-clause-filled
returns-clause-filled c =
    class_by c.args.at c.args.class.now (left_of c.args.rest.now) _ _ _ _ _ _ _ c.in_ok-name.ensures (c.as_slice.ensures ∙ c.in_ok-variables.ensures) c.new-members.ensures
    c.in_ok-put_variable_lines.ensures.lines c.in_ok-put_variable_lines.ensures.left c.as_slice-2.ensures c.in_ok-fill_members.ensures.filled

pub returns-clause-left : goal.returns-clause-left
returns-clause-left c =
    class_left_by c.args.at c.args.class.now (left_of c.args.rest.now) _ _ _ _ (c.as_slice.ensures ∙ c.in_ok-variables.ensures) c.in_ok-put_variable_lines.ensures.left c.as_slice-2.ensures
    c.in_ok-fill_members.ensures.left
