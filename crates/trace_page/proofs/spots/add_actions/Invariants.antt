use Rattle.std.proofs.Common.{◌≡◌, ◌++◌, drop}
use Rattle.trace_page.specs.Rows.{spots_in}
use Rattle.trace_page.specs.Sheets.{actions_at}
use Rattle.trace_page.proofs.spots.add_actions.Given as goal

abbrev pub invariant-loop-action : goal.invariant-loop-action
invariant-loop-action l = actions_at l.fn.spots ++ spots_in l.at.event l.at.line l.action-items
    ≡ actions_at l.spots ++ spots_in l.at.event l.line (drop l.action-index l.action-items)
