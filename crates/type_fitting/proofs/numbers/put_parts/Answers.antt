use Rattle.std.proofs.Common.{length}
use Rattle.type_fitting.proofs.MetLaws.{part_known, parts_puts}
use Rattle.type_fitting.proofs.numbers.put_parts.Goals as goal

pub put_there-requires-clause-known : goal.put_there-requires-clause-known
put_there-requires-clause-known c = part_known (length c.args.table.now.forms) c.args.scheme.now c.in_ok-part.part c.args.count c.in_ok-part.ensures c.requires.known

pub returns : goal.returns
returns c = parts_puts c.args.table.now c.put_there.new.table c.args.scheme.now c.in_ok-part.part c.args.count c.requires.some c.in_ok-part.ensures c.in_ok-put_there.ensures
