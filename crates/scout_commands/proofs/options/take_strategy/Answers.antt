use Rattle.std.proofs.Common.{sym, subst}
use Rattle.scout_commands.specs.declared.options.Kind.TheVariants.{By}
use Rattle.scout_commands.specs.Options.{Finds}
use Rattle.scout_commands.proofs.OptionLemmas.{strategy_absent, words_from}
use Rattle.scout_commands.proofs.options.take_strategy.Goals as goal

pub returns-in_default : goal.returns-in_default
returns-in_default c = strategy_absent c.args.options c.args.words.now c.in_default.len_below

pub returns : goal.returns
returns c =
    subst (λ ws. Finds By c.args.options ws c.take_named.result)
    (sym (words_from c.args.words.now c.word-item.result c.as_str.result.now c.in-len1-up.len_at_least c.word-item.is c.as_str.ensures.value)) c.take_named.ensures
