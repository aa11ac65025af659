use Rattle.std.proofs.Common.{◌∙◌}
use Rattle.trace_page.proofs.marks.put_mark.Goals as goal

pub put_form-requires : goal.put_form-requires
put_form-requires c = record { sheet = c.requires; line = c.as_slice.ensures ∙ c.in_ok-line.ensures; label = c.as_slice-2.ensures ∙ c.in_ok-label.ensures }
