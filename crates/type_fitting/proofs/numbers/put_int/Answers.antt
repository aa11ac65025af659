use Rattle.std.proofs.Common.{length}
use Rattle.type_fitting.proofs.MetLaws.{int_known, int_puts}
use Rattle.type_fitting.proofs.numbers.put_int.Goals as goal

pub put_same-requires-clause-found : goal.put_same-requires-clause-found
put_same-requires-clause-found c = int_known (length c.args.table.now.forms)

pub returns : goal.returns
returns c = int_puts c.args.table.now c.put_same.new.table c.args.scheme.now c.in_ok-put_same.ensures
