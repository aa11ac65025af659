use Rattle.std.specs.Option.{option_copied}
use Rattle.std.proofs.Common.{Option, sym, ap, ◌∙◌}
use Rattle.row_pool.specs.declared.cell.Cell.{Cell}
use Rattle.row_pool.specs.Cells.{value_in}
use Rattle.row_pool.specs.Pool.{or_no_value}
use Rattle.row_pool.specs.Sets.{is_set}
use Rattle.row_pool.proofs.sets.has_set.Goals as goal

pub returns-in-Some : goal.returns-in-Some
returns-in-Some c = λ test. ap (λ (o : Option Cell). is_set (or_no_value (value_in o))) (sym c.get.ensures ∙ ap option_copied c.in-Some.is) ∙ sym c.is_set.ensures ∙ test
