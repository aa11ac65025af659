use Rattle.std.proofs.Common.{◌∙◌, sym}
use Rattle.da_lang.specs.World.{at_number}
use Rattle.da_system.specs.State.{program_of}
use Rattle.run_page.proofs.CellLemmas.{parts_are}
use Rattle.run_page.proofs.cells.cells_of.Goals as goal

pub returns : goal.returns
returns c = λ s stands.
    parts_are (program_of c.args.system.now) c.args.names.now s c.args.p c.args.line c.args.count (at_number s.worlds c.args.p) c.new-cells.result c.add_place.new.cells c.add_slots.new.cells c.add_answers.new.cells c.add_flights.new.cells
    c.new-cells.ensures (c.requires.count ∙ sym stands.runs.sound.each) (c.in_ok-add_place.ensures s stands) (c.in_ok-add_slots.ensures s stands) (c.in_ok-add_answers.ensures s stands) (c.in_ok-add_flights.ensures s stands)
