use Rattle.type_fitting.proofs.PutLaws.{note_puts}
use Rattle.type_fitting.proofs.numbers.put_note.Goals as goal

pub returns : goal.returns
returns c =
    let old = c.args.table.now in
    note_puts old (record { forms = c.number_of.new.forms; equations = c.number_of.new.equations; notes = c.push.new.self }) c.requires.sound c.args.scheme.now c.args.kind _ c.requires.known c.in_ok-number.ensures c.in_ok-push.ensures.ok
