use Rattle.std.specs.Option.{option_copied_mut}
use Rattle.std.proofs.Common.{Option, sym, ap, ◌∙◌}
use Rattle.da_values.specs.Value.{val_of}
use Rattle.row_pool.specs.declared.cell.Cell.{Cell}
use Rattle.row_pool.specs.Cells.{value_in}
use Rattle.row_pool.specs.Pool.{or_no_value}
use Rattle.row_pool.specs.Sets.{is_set}
use Rattle.row_pool.proofs.PutLaws.{takes_out}
use Rattle.row_pool.proofs.sets.take_part.Goals as goal

pub take_from_cell-requires-clause-set : goal.take_from_cell-requires-clause-set
take_from_cell-requires-clause-set c = sym (ap (λ (o : Option Cell). is_set (or_no_value (value_in o))) (sym c.get_mut.ensures.value ∙ ap option_copied_mut c.in-Some.is)) ∙ c.requires.set

pub take_from_cell-requires-clause-within : goal.take_from_cell-requires-clause-within
take_from_cell-requires-clause-within c = c.requires.within c.in-Some.cell.now (sym c.get_mut.ensures.value ∙ ap option_copied_mut c.in-Some.is)

pub returns : goal.returns
returns c =
    takes_out c.args.cells.now.slots c.args.key c.in-Some.cell.now c.take_from_cell.new.cell (sym c.get_mut.ensures.value ∙ ap option_copied_mut c.in-Some.is) c.args.at (val_of c.args.v.now) c.args.mark c.take_from_cell.result.mark
    c.take_from_cell.result.part c.take_from_cell.ensures.was c.take_from_cell.ensures.shrinks
