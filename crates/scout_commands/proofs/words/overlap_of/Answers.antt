use Rattle.std.proofs.Common.{◌∷◌, codes, sym, subst}
use Rattle.std.specs.Prelude.{IfOk}
use Rattle.scout_commands.specs.Words.{FindsAim}
use Rattle.scout_commands.proofs.WordLemmas.{overlap_absent, words_from_two}
use Rattle.scout_commands.proofs.words.overlap_of.Goals as goal

pub returns-in_default : goal.returns-in_default
returns-in_default c = overlap_absent c.args.words.now c.in_default.len_below

pub returns : goal.returns
returns c =
    subst (λ ws. IfOk c.overlap_by.result (FindsAim (codes "overlap" ∷ ws)))
    (sym (words_from_two c.args.words.now c.enter-item.result c.leave-item.result c.as_str.result.now c.as_str-2.result.now c.in-len2-up.len_at_least c.enter-item.is c.leave-item.is c.as_str.ensures.value c.as_str-2.ensures.value)) c.overlap_by.ensures
