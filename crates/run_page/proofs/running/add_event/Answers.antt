use Rattle.std.proofs.Common.{[], ◌∷◌, ◌++◌, ◌∙◌, ap, refl}
use Rattle.run_page.specs.RunRows.{event_row}
use Rattle.run_page.specs.declared.running.Running.{Running}
use Rattle.run_page.proofs.RunLemmas.{told}
use Rattle.run_page.proofs.running.add_event.Goals as goal

pub cells_now-requires : goal.cells_now-requires
cells_now-requires c = record { ready = λ unspent. (c.requires.state, c.requires.stands); unspent = c.requires.stands.runs.unspent; program = c.requires.program }

pub returns : goal.returns
returns c =
    let old = c.args.running.now in
    let new : Running = record old { cells = c.in_ok-cells.cells; rows = c.push.new.self } in
    let marked = old.asked.marked.now in (
      refl,
      told c.args.number c.args.event.now c.args.actions old new refl refl c.requires.program c.in_ok-cells.ensures
          (c.in_ok-push.ensures.ok
          ∙ ap (λ row. old.rows ++ row ∷ [])
          (c.in_ok-row.ensures ∙ ap (λ cells. event_row marked c.args.number c.args.event.now c.args.actions cells c.as_slice-2.result.now) c.as_slice.ensures
          ∙ ap (λ cells. event_row marked c.args.number c.args.event.now c.args.actions old.cells cells) c.as_slice-2.ensures)),
    )
