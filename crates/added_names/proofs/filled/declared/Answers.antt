use Rattle.std.proofs.Common.{◌∙◌}
use Rattle.added_names.proofs.FillLaws.{tree_by}
use Rattle.added_names.proofs.filled.declared.Goals as goal

pub returns : goal.returns
returns c =
    tree_by c.args.tree.now c.args.untyped.now c.args.types.now _ _ _ _ _ _ _ (c.as_slice-2.ensures ∙ c.in_ok-tags.ensures) (c.in_ok-messages.ensures ∙ c.as_slice.ensures) c.in_ok-put_message_lines.ensures.lines
    c.in_ok-put_message_lines.ensures.left c.as_slice-3.ensures c.in_ok-classes.ensures (c.in_ok-main.ensures ∙ c.as_slice-4.ensures)
