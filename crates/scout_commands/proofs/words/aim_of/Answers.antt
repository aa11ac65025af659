use Rattle.std.proofs.Common.{sym, subst}
use Rattle.std.specs.Prelude.{IfOk}
use Rattle.scout_commands.specs.Words.{FindsAim}
use Rattle.scout_commands.proofs.OptionLemmas.{words_from}
use Rattle.scout_commands.proofs.WordLemmas.{no_first}
use Rattle.scout_commands.proofs.words.aim_of.Goals as goal

pub returns-in_default : goal.returns-in_default
returns-in_default c = no_first c.args.words.now c.in_default.len_below

pub returns : goal.returns
returns c =
    subst (λ ws. IfOk c.aim_by.result (FindsAim ws)) (sym (words_from c.args.words.now c.word-item.result c.as_str.result.now c.in-len1-up.len_at_least c.word-item.is c.as_str.ensures.value)) c.aim_by.ensures
