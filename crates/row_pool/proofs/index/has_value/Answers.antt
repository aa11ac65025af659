use Rattle.std.specs.Option.{option_copied}
use Rattle.std.proofs.Common.{sym, ap, ◌∙◌}
use Rattle.da_values.specs.Value.{val_of}
use Rattle.row_pool.proofs.NumberLaws.{not_named, not_same, same_there}
use Rattle.row_pool.proofs.index.has_value.Goals as goal

pub returns-in-Some-clause-yes : goal.returns-in-Some-clause-yes
returns-in-Some-clause-yes c = same_there c.args.cells.now.slots c.args.key c.in-Some.cell.now (val_of c.args.v.now) c.is_same.result (sym c.get.ensures ∙ ap option_copied c.in-Some.is) c.is_same.ensures

pub returns-in-Some-clause-not : goal.returns-in-Some-clause-not
returns-in-Some-clause-not c = not_same c.args.cells.now.slots c.args.key c.in-Some.cell.now (val_of c.args.v.now) c.is_same.result (sym c.get.ensures ∙ ap option_copied c.in-Some.is) c.is_same.ensures

pub returns-in-None-clause-not : goal.returns-in-None-clause-not
returns-in-None-clause-not c = λ _. not_named c.args.cells.now.slots c.args.key (val_of c.args.v.now) (sym c.get.ensures ∙ ap option_copied c.in-None.is)
