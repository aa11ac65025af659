use Rattle.std.proofs.Common.{◌++◌, ◌∙◌, ap}
use Rattle.std.proofs.lemmas.Result.{on_ok_weaker}
use Rattle.da_lang.specs.World.{at_number}
use Rattle.run_page.specs.Cells.{slot_cells}
use Rattle.run_page.proofs.CellLemmas.{slots_as}
use Rattle.run_page.proofs.cells.add_slots.Goals as goal

pub returns : goal.returns
returns c =
    on_ok_weaker c.add_values.result
    (λ adds s stands.
    slots_as (at_number s.worlds c.args.p) c.args.names.now c.in_ok-slots.slots c.args.cells.now c.add_values.new.cells (c.in_ok-slots.ensures s stands)
    (adds ∙ ap (λ slots. c.args.cells.now ++ slot_cells c.args.names.now 1 slots) c.as_slice.ensures)) c.add_values.ensures
