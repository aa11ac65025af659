use Rattle.sched_text.proofs.ActionLaws.{no_action_after, no_action_named}
use Rattle.sched_text.proofs.OneAction.{only_action}
use Rattle.sched_text.proofs.reading.read_action.Goals as goal

pub returns-in-Some-clause-unread : goal.returns-in-Some-clause-unread
returns-in-Some-clause-unread c wanted =
    no_action_after c.in-Some.kind c.split_word.result.0.now c.split_word.result.1.now c.args.line.now c.kind_of.result
    c.split_word.ensures.split c.split_word.ensures.word c.split_word.ensures.rest c.kind_of.ensures.value c.in-Some.is (c.read_after.ensures.unread wanted)

pub returns-in-Some-clause-only : goal.returns-in-Some-clause-only
returns-in-Some-clause-only c a one =
    only_action c.in-Some.kind c.split_word.result.0.now c.split_word.result.1.now c.args.line.now c.kind_of.result c.read_after.result a
    c.split_word.ensures.split c.split_word.ensures.word c.split_word.ensures.rest c.kind_of.ensures.value c.in-Some.is c.read_after.ensures.ok c.read_after.ensures.unread one

pub returns-in-None-clause-unread : goal.returns-in-None-clause-unread
returns-in-None-clause-unread c wanted =
    no_action_named c.split_word.result.0.now c.split_word.result.1.now c.args.line.now c.kind_of.result
    c.split_word.ensures.split c.split_word.ensures.word c.split_word.ensures.rest c.kind_of.ensures.value c.in-None.is

pub returns-in-None-clause-only : goal.returns-in-None-clause-only
returns-in-None-clause-only c a one =
    absurd (no_action_named c.split_word.result.0.now c.split_word.result.1.now c.args.line.now c.kind_of.result
    c.split_word.ensures.split c.split_word.ensures.word c.split_word.ensures.rest c.kind_of.ensures.value c.in-None.is (a, one))
