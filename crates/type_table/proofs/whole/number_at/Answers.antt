use Rattle.std.proofs.Common.{ap, get_or}
use Rattle.type_table.proofs.TableLaws.{read_at}
use Rattle.type_table.proofs.whole.number_at.Goals as goal

pub returns : goal.returns
returns c = read_at c.args.parts.now c.args.at _ 0 c.requires (ap (λ xs. get_or xs c.args.at 0) c.as_slice.ensures)
