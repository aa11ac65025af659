use Rattle.scout_commands.proofs.OptionLemmas.{priorities_absent, priorities_missed, priorities_taken}
use Rattle.scout_commands.proofs.options.take_priorities.Goals as goal

pub returns-in_default : goal.returns-in_default
returns-in_default c = priorities_absent c.args.options c.args.words.now c.in_default.len_below

pub returns-in-Some : goal.returns-in-Some
returns-in-Some c =
    priorities_taken c.args.options c.args.words.now c.word-item.result c.as_str.result.now c.in-Some.falls c.with_strategy.result c.in-len1-up.len_at_least c.word-item.is c.as_str.ensures.value c.in-Some.ensures.some.0.1 c.in-Some.ensures.some.1 c.requires
    c.with_strategy.ensures.options c.with_strategy.ensures.others

pub returns-in-None : goal.returns-in-None
returns-in-None c = priorities_missed c.args.options c.args.words.now c.word-item.result c.as_str.result.now c.in-len1-up.len_at_least c.word-item.is c.as_str.ensures.value c.in-None.ensures.none
