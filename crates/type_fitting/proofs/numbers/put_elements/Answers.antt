use Rattle.std.proofs.Common.{length}
use Rattle.type_fitting.proofs.MetLaws.{element_known, elements_puts}
use Rattle.type_fitting.proofs.numbers.put_elements.Goals as goal

pub put_there-requires-clause-known : goal.put_there-requires-clause-known
put_there-requires-clause-known c = element_known (length c.args.table.now.forms) c.args.scheme.now c.in_ok-element.element c.in_ok-element.ensures c.requires.known

pub returns : goal.returns
returns c = elements_puts c.args.table.now c.put_there.new.table c.args.scheme.now c.in_ok-element.element c.in_ok-element.ensures c.in_ok-put_there.ensures
