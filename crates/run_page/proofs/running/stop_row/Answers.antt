use Rattle.std.proofs.Common.{[], ◌∷◌, ◌++◌, ◌∙◌, ap}
use Rattle.std.specs.List.{list_any}
use Rattle.std.specs.Prelude.{◌==◌}
use Rattle.da_lang.specs.declared.event.Action.TheVariants.{Stop}
use Rattle.sched_text.specs.EventText.{event_text}
use Rattle.run_page.proofs.RunLemmas.{row_of}
use Rattle.run_page.proofs.running.stop_row.Goals as goal

pub returns : goal.returns
returns c =
    row_of c.in_ok-words.words (event_text c.args.event.now) c.push.new.self (Stop c.args.number ∷ []) c.new-changes.result [] c.is_among.result (list_any (λ n. n == c.args.number) c.args.asked.marked.now)
    c.in_ok-words.ensures (c.in_ok-push.ensures.ok ∙ ap (λ before. before ++ Stop c.args.number ∷ []) c.new-actions.ensures) c.new-changes.ensures c.is_among.ensures
