use Rattle.sched_text.specs.Reading.{listed}
use Rattle.sched_text.proofs.EventLaws.{no_line_named, no_numbers}
use Rattle.sched_text.proofs.IfLemmas.{if_none}
use Rattle.sched_text.proofs.words.read_event.Goals as goal

pub returns-in_err-numbers-clause-none : goal.returns-in_err-numbers-clause-none
returns-in_err-numbers-clause-none c =
    if_none c.from_residual.result _ (no_numbers c.split_word.result.0.now c.split_word.result.1.now c.args.line.now
    c.split_word.ensures.split c.split_word.ensures.word c.split_word.ensures.rest c.in_err-numbers.ensures.none)

pub returns-clause-none : goal.returns-clause-none
returns-clause-none c =
    no_line_named c.split_word.result.0.now c.split_word.result.1.now c.args.line.now (listed c.in_ok-numbers.numbers) c.event_of.result
    c.split_word.ensures.split c.split_word.ensures.word c.split_word.ensures.rest c.in_ok-numbers.ensures.some.1 c.in_ok-numbers.ensures.some.0.named c.event_of.ensures
