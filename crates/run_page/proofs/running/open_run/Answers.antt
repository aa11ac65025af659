use Rattle.std.proofs.Common.{◌∙◌, ap, refl}
use Rattle.run_page.specs.RunRows.{opening_row}
use Rattle.run_page.proofs.RunLemmas.{opened}
use Rattle.run_page.proofs.running.open_run.Goals as goal

pub cells_now-requires : goal.cells_now-requires
cells_now-requires c = record { ready = c.in_ok-system.ensures.ready; unspent = c.in_ok-system.ensures.start.runs.unspent; program = c.in_ok-system.ensures.program }

pub returns : goal.returns
returns c =
    opened c.args.asked (record { asked = c.args.asked; system = c.in_ok-system.system; cells = c.in_ok-cells.cells; rows = c.push.new.self }) c.new-rows.result c.in_ok-row.row refl c.in_ok-system.ensures.program c.in_ok-system.ensures.start
    c.in_ok-cells.ensures c.new-rows.ensures (c.in_ok-row.ensures ∙ ap opening_row c.as_slice.ensures) c.in_ok-push.ensures.ok
