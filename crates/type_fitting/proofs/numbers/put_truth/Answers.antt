use Rattle.std.proofs.Common.{length}
use Rattle.type_fitting.proofs.MetLaws.{bool_known, truth_puts}
use Rattle.type_fitting.proofs.numbers.put_truth.Goals as goal

pub put_same-requires-clause-found : goal.put_same-requires-clause-found
put_same-requires-clause-found c = bool_known (length c.args.table.now.forms)

pub returns : goal.returns
returns c = truth_puts c.args.table.now c.put_same.new.table c.args.scheme.now c.in_ok-put_same.ensures
