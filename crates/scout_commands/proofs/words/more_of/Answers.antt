use Rattle.std.proofs.Common.{◌∙◌, ◌∷◌, ap, codes, map}
use Rattle.std.specs.String.{string_bytes}
use Rattle.scout_commands.proofs.OptionLemmas.{others_of, words_from}
use Rattle.scout_commands.proofs.WordLemmas.{more_absent, more_missed}
use Rattle.scout_commands.proofs.words.more_of.Goals as goal

pub returns-in_default : goal.returns-in_default
returns-in_default c = more_absent c.args.words.now c.in_default.len_below

pub returns-in-Some : goal.returns-in-Some
returns-in-Some c = (
  ap (λ ws. codes "more" ∷ ws)
      (words_from c.args.words.now c.word-item.result c.as_bytes.result.now c.in-len1-up.len_at_least c.word-item.is c.as_bytes.ensures.value ∙ ap (λ text. text ∷ map string_bytes (others_of c.args.words.now)) c.in-Some.ensures.some.1),
  c.in-Some.ensures.some.0.1,
)

pub returns-in-None : goal.returns-in-None
returns-in-None c = more_missed c.args.words.now c.word-item.result c.as_bytes.result.now c.in-len1-up.len_at_least c.word-item.is c.as_bytes.ensures.value c.in-None.ensures.none
