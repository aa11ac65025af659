use Rattle.std.specs.Option.{option_copied}
use Rattle.std.proofs.Common.{Option, sym, ap, ◌∙◌}
use Rattle.row_pool.specs.declared.cell.Cell.{Cell}
use Rattle.row_pool.specs.Cells.{holders_in, value_in}
use Rattle.row_pool.specs.Pool.{or_no_value}
use Rattle.row_pool.specs.Sets.{is_set}
use Rattle.row_pool.proofs.sets.is_alone.Goals as goal

pub returns-in-Some-clause-one : goal.returns-in-Some-clause-one
returns-in-Some-clause-one c = λ test. ap holders_in (sym c.get.ensures ∙ ap option_copied c.in-Some.is) ∙ c.is_single.ensures.one test

pub returns-in-Some-clause-set : goal.returns-in-Some-clause-set
returns-in-Some-clause-set c = λ test. ap (λ (o : Option Cell). is_set (or_no_value (value_in o))) (sym c.get.ensures ∙ ap option_copied c.in-Some.is) ∙ c.is_single.ensures.set test
