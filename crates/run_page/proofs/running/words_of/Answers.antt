use Rattle.std.proofs.Common.{◌++◌, ◌∙◌, ap}
use Rattle.sched_text.specs.EventText.{event_line, event_text}
use Rattle.trace_page.proofs.LabelLemmas.{line_without_end}
use Rattle.run_page.proofs.running.words_of.Goals as goal

pub returns : goal.returns
returns c =
    line_without_end (event_text c.args.event.now) c.write_event.new.out c.pop.new.self c.pop.result (c.in_ok-write_event.ensures.ok ∙ ap (λ before. before ++ event_line c.args.event.now) c.new-line.ensures) c.pop.ensures
