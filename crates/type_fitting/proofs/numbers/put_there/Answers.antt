use Rattle.std.proofs.Common.{refl}
use Rattle.type_fitting.proofs.PutLaws.{there_puts}
use Rattle.type_fitting.proofs.numbers.put_there.Goals as goal

pub returns : goal.returns
returns c =
    let old = c.args.table.now in
    there_puts old (record { forms = c.number_of.new.forms; equations = c.number_of.new.equations; notes = old.notes }) c.requires.sound c.args.scheme.now _ c.requires.known c.in_ok-number_of.ensures refl
