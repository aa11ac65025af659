use Rattle.std.proofs.Common.{length}
use Rattle.std.proofs.Common.{refl}
use Rattle.type_fitting.proofs.MetLaws.{empty_known, empty_puts}
use Rattle.type_fitting.proofs.numbers.put_empty.Goals as goal

pub put_same-requires-clause-found : goal.put_same-requires-clause-found
put_same-requires-clause-found c = empty_known (length c.args.table.now.forms) _ c.new.result refl c.new.ensures

pub returns : goal.returns
returns c = empty_puts c.args.table.now c.put_same.new.table c.args.scheme.now _ c.new.result refl c.new.ensures c.in_ok-put_same.ensures
