use Rattle.std.proofs.Common.{sym, ap, ◌∙◌}
use Rattle.row_pool.specs.Marks.{mark_of_set}
use Rattle.row_pool.proofs.KindLaws.{mark_of_kept_set, mark_of_other}
use Rattle.row_pool.proofs.marks.mark_of.Goals as goal

pub returns-in-Set : goal.returns-in-Set
returns-in-Set c = c.sum_of.ensures ∙ ap mark_of_set c.as_slice.ensures.items ∙ sym (mark_of_kept_set c.args.v.now c.in-Set.elements c.in-Set.is)

pub returns-in_default : goal.returns-in_default
returns-in_default c = c.hash_of.ensures ∙ sym (mark_of_other c.args.v.now c.in_default.not-Set)
