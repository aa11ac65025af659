use Rattle.std.proofs.Common.{◌∷◌, ap, codes}
use Rattle.scout_commands.proofs.OptionLemmas.{words_from}
use Rattle.scout_commands.proofs.WordLemmas.{watch_absent}
use Rattle.scout_commands.proofs.words.watched_of.Goals as goal

pub returns-in_default : goal.returns-in_default
returns-in_default c = watch_absent c.args.words.now c.in_default.len_below

pub returns : goal.returns
returns c = ap (λ ws. codes "watch" ∷ ws) (words_from c.args.words.now c.word-item.result c.as_str.result.now c.in-len1-up.len_at_least c.word-item.is c.as_str.ensures.value)
