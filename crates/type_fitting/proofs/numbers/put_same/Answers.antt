use Rattle.std.proofs.Common.{refl}
use Rattle.type_fitting.proofs.PutLaws.{same_puts}
use Rattle.type_fitting.proofs.numbers.put_same.Goals as goal

pub returns : goal.returns
returns c =
    let old = c.args.table.now in
    same_puts old (record { forms = c.number_of-2.new.forms; equations = c.push.new.self; notes = old.notes }) c.requires.sound c.number_of.new.forms c.number_of.new.equations c.number_of-2.new.equations c.args.asked.now c.args.found.now _ _ c.requires.asked c.requires.found
    c.in_ok-first.ensures c.in_ok-second.ensures c.in_ok-push.ensures.ok refl
