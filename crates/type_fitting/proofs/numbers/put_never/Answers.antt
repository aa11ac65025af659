use Rattle.std.proofs.Common.{length}
use Rattle.type_fitting.proofs.MetLaws.{int_known, bool_known, never_puts}
use Rattle.type_fitting.proofs.numbers.put_never.Goals as goal

pub put_same-requires-clause-asked : goal.put_same-requires-clause-asked
put_same-requires-clause-asked c = int_known (length c.args.table.now.forms)

pub put_same-requires-clause-found : goal.put_same-requires-clause-found
put_same-requires-clause-found c = bool_known (length c.args.table.now.forms)

pub returns : goal.returns
returns c = never_puts c.args.table.now c.put_same.new.table c.in_ok-put_same.ensures
