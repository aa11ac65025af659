use Rattle.scout_commands.specs.Options.{with_jobs}
use Rattle.scout_commands.proofs.OptionLemmas.{number_absent, number_missed, number_taken}
use Rattle.scout_commands.proofs.options.take_jobs.Goals as goal

pub returns-in_default : goal.returns-in_default
returns-in_default c = number_absent 1 64 c.args.words.now c.args.options.jobs (with_jobs c.args.options) c.in_default.len_below

pub returns-in-Some : goal.returns-in-Some
returns-in-Some c =
    number_taken 1 64 c.args.words.now c.args.options.jobs (with_jobs c.args.options) c.word-item.result c.as_str.result.now c.in-Some.number c.in-len1-up.len_at_least c.word-item.is c.as_str.ensures.value c.in-Some.ensures.some.0 c.in-Some.ensures.some.1 c.in-Some.ensures.some.2

pub returns-in-None : goal.returns-in-None
returns-in-None c = number_missed 1 64 c.args.words.now c.args.options.jobs (with_jobs c.args.options) c.word-item.result c.as_str.result.now c.in-len1-up.len_at_least c.word-item.is c.as_str.ensures.value c.in-None.ensures.none
