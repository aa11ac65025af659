use Rattle.std.proofs.Common.{refl}
use Rattle.std.specs.List.{list_any}
use Rattle.std.specs.Prelude.{◌==◌}
use Rattle.sched_text.specs.EventText.{event_text}
use Rattle.run_page.specs.Cells.{changes}
use Rattle.run_page.proofs.RunLemmas.{row_of}
use Rattle.run_page.proofs.running.event_row.Goals as goal

pub returns : goal.returns
returns c =
    row_of c.in_ok-words.words (event_text c.args.event.now) c.args.actions c.args.actions c.in_ok-changes.changes (changes c.args.earlier.now c.args.later.now) c.is_among.result (list_any (λ n. n == c.args.number) c.args.asked.marked.now)
    c.in_ok-words.ensures refl c.in_ok-changes.ensures c.is_among.ensures
